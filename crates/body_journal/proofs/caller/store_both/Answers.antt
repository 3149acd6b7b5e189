use Rattle.std.proofs.Common.{ℕ, List, [], ◌++◌, subst}
use Rattle.std.proofs.lemmas.List.{append_assoc}
use Rattle.std.proofs.lemmas.Result.{IfOk-from_err}
use Rattle.std.specs.Arc.{arc_value}
use Rattle.body_journal.specs.Journals.{IsAt}
use Rattle.body_journal.specs.Stores.{Stores}
use Rattle.body_journal.proofs.Left.{both_stored, none_more}
use Rattle.body_journal.proofs.caller.store_both.Goals as goal

pub returns-in_err-one : goal.returns-in_err-one
returns-in_err-one g c = record {
  both = λ bodies stores. (
    [],
    none_more (g.D.Disk.told c.args.disk.now) c.queue_body.new.self bodies (c.queue_body.ensures.stores (g.D.Disk.told c.args.disk.now) bodies stores),
    IfOk-from_err c.from_residual.result (λ numbers. IsAt (bodies ++ []) numbers.0 c.args.first.items × IsAt (bodies ++ []) numbers.1 c.args.second.items) c.from_residual.ensures.0,
  );
}

pub returns-in_err-other : goal.returns-in_err-other
returns-in_err-other g c = record {
  both = λ bodies stores. (
    [],
    none_more (g.D.Disk.told c.args.disk.now) c.queue_body-2.new.self bodies
        (c.queue_body-2.ensures.stores (g.D.Disk.told c.args.disk.now) bodies (c.queue_body.ensures.stores (g.D.Disk.told c.args.disk.now) bodies stores)),
    IfOk-from_err c.from_residual-in_err-other.result (λ numbers. IsAt (bodies ++ []) numbers.0 c.args.first.items × IsAt (bodies ++ []) numbers.1 c.args.second.items)
        c.from_residual-in_err-other.ensures.0,
  );
}

pub returns-in_err-other-2 : goal.returns-in_err-other-2
returns-in_err-other-2 g c = record {
  both = λ bodies stores.
      let one : (more : List (List ℕ)) × Stores (g.D.Disk.told c.flush_group.new.disk) c.flush_group.new.self (bodies ++ more) × IsAt (bodies ++ more) c.in_ok-one-2.one.body (arc_value c.in_ok-one.one.body) =
      c.in_ok-one-2.ensures.stores bodies
      (c.queue_body-2.ensures.stores (g.D.Disk.told c.args.disk.now) bodies (c.queue_body.ensures.stores (g.D.Disk.told c.args.disk.now) bodies stores)) in
      let other : (rest : List (List ℕ)) × Stores (g.D.Disk.told c.flush_group-2.new.disk) c.flush_group-2.new.self ((bodies ++ one.0) ++ rest) × Unit {0} =
      c.in_err-other-2.ensures.stores (bodies ++ one.0) one.1 in (
        one.0 ++ other.0,
        subst (λ (all : List (List ℕ)). Stores (g.D.Disk.told c.flush_group-2.new.disk) c.flush_group-2.new.self all) (append_assoc bodies one.0 other.0) other.1,
        IfOk-from_err c.from_residual-in_err-other-2.result
            (λ numbers. IsAt (bodies ++ (one.0 ++ other.0)) numbers.0 c.args.first.items × IsAt (bodies ++ (one.0 ++ other.0)) numbers.1 c.args.second.items)
            c.from_residual-in_err-other-2.ensures.0,
      );
}

pub returns : goal.returns
returns g c = record {
  both = λ bodies stores.
      both_stored (g.D.Disk.told c.flush_group.new.disk) (g.D.Disk.told c.flush_group-2.new.disk) c.flush_group.new.self c.flush_group-2.new.self bodies c.in_ok-one-2.one.body c.in_ok-other-2.other.body
      c.args.first.items c.args.second.items
      (subst (λ (body : List ℕ). (more : List (List ℕ)) × Stores (g.D.Disk.told c.flush_group.new.disk) c.flush_group.new.self (bodies ++ more) × IsAt (bodies ++ more) c.in_ok-one-2.one.body body)
      c.in_ok-one.ensures.body
      (c.in_ok-one-2.ensures.stores bodies
      (c.queue_body-2.ensures.stores (g.D.Disk.told c.args.disk.now) bodies (c.queue_body.ensures.stores (g.D.Disk.told c.args.disk.now) bodies stores))))
      (subst
      (λ (body : List ℕ). (all : List (List ℕ)) → Stores (g.D.Disk.told c.flush_group.new.disk) c.flush_group.new.self all
      → (more : List (List ℕ)) × Stores (g.D.Disk.told c.flush_group-2.new.disk) c.flush_group-2.new.self (all ++ more) × IsAt (all ++ more) c.in_ok-other-2.other.body body)
      c.in_ok-other.ensures.body c.in_ok-other-2.ensures.stores);
}

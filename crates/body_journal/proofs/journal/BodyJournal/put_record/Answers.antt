use Rattle.std.proofs.Common.{◌≡◌, ℕ, List, [], ◌∷◌, ◌++◌, length, map, Some, OnOk, ◌∙◌, ap, subst, arith, rules}
use Rattle.record_log.proofs.Items.{put_items, moments_items}
use Rattle.record_log.specs.Devices.{MomentsHave}
use Rattle.record_log.specs.Items.{IsPut, LogsSome, Decides}
use Rattle.record_log.specs.Logs.{sizes_of, IsFull}
use Rattle.body_journal.specs.Groups.{group_bytes, group_size}
use Rattle.body_journal.specs.Held.{grouped_in}
use Rattle.body_journal.proofs.Sizes.{record_is, bytes_size}
use Rattle.body_journal.proofs.journal.BodyJournal.put_record.Goals as goal

pub put-requires : goal.put-requires
put-requires g c =
    let bytes : c.deref-2.result.now ≡ group_bytes (c.args.body.now ∷ grouped_in c.args.self.now.held.items) =
    record_is c.deref-2.result.now c.args.body.now (grouped_in c.args.self.now.held.items) c.args.group.others c.requires.others (c.deref-2.ensures.value ∙ search rules) in
    let size : length c.deref-2.result.now ≡ group_size (c.args.body.now ∷ grouped_in c.args.self.now.held.items) =
    ap (λ (list : List ℕ). length list) bytes ∙ bytes_size (c.args.body.now ∷ grouped_in c.args.self.now.held.items) in
    omega (arith, size, c.requires.within)

pub returns-clause-sizes : goal.returns-clause-sizes
returns-clause-sizes g c =
    let bytes : c.deref-2.result.now ≡ group_bytes (c.args.body.now ∷ grouped_in c.args.self.now.held.items) =
    record_is c.deref-2.result.now c.args.body.now (grouped_in c.args.self.now.held.items) c.args.group.others c.requires.others (c.deref-2.ensures.value ∙ search rules) in
    let size : length c.deref-2.result.now ≡ group_size (c.args.body.now ∷ grouped_in c.args.self.now.held.items) =
    ap (λ (list : List ℕ). length list) bytes ∙ bytes_size (c.args.body.now ∷ grouped_in c.args.self.now.held.items) in
    subst (λ (n : ℕ). OnOk c.put.result (sizes_of c.put.new.self ≡ sizes_of c.args.self.now.log ++ n ∷ [])) size c.put.ensures.sizes

pub returns-clause-full : goal.returns-clause-full
returns-clause-full g c = λ settled is_full.
    let bytes : c.deref-2.result.now ≡ group_bytes (c.args.body.now ∷ grouped_in c.args.self.now.held.items) =
    record_is c.deref-2.result.now c.args.body.now (grouped_in c.args.self.now.held.items) c.args.group.others c.requires.others (c.deref-2.ensures.value ∙ search rules) in
    let size : length c.deref-2.result.now ≡ group_size (c.args.body.now ∷ grouped_in c.args.self.now.held.items) =
    ap (λ (list : List ℕ). length list) bytes ∙ bytes_size (c.args.body.now ∷ grouped_in c.args.self.now.held.items) in
    subst (λ (n : ℕ). IsFull c.args.self.now.log n) size ((c.put.ensures.full settled).0 is_full)

pub returns-clause-carries : goal.returns-clause-carries
returns-clause-carries g c = λ groups carried.
    let bytes : c.deref-2.result.now ≡ group_bytes (c.args.body.now ∷ grouped_in c.args.self.now.held.items) =
    record_is c.deref-2.result.now c.args.body.now (grouped_in c.args.self.now.held.items) c.args.group.others c.requires.others (c.deref-2.ensures.value ∙ search rules) in
    put_items group_bytes c.put.new.self (g.D.Disk.told c.put.new.disk) groups (c.args.body.now ∷ grouped_in c.args.self.now.held.items) c.put.result
    (subst (λ (one : List ℕ). IsPut c.put.new.self (g.D.Disk.told c.put.new.disk) (map group_bytes groups) one c.put.result) bytes (c.put.ensures.carries (map group_bytes groups) carried))

pub returns-clause-leaves : goal.returns-clause-leaves
returns-clause-leaves g c = λ groups carried.
    let bytes : c.deref-2.result.now ≡ group_bytes (c.args.body.now ∷ grouped_in c.args.self.now.held.items) =
    record_is c.deref-2.result.now c.args.body.now (grouped_in c.args.self.now.held.items) c.args.group.others c.requires.others (c.deref-2.ensures.value ∙ search rules) in
    moments_items group_bytes groups (Some (c.args.body.now ∷ grouped_in c.args.self.now.held.items)) c.args.self.now.log.file (g.D.Disk.told c.args.disk.now) (g.D.Disk.told c.put.new.disk)
    (subst (λ (bytes : List ℕ). MomentsHave c.args.self.now.log.file (LogsSome (Decides (map group_bytes groups) (Some bytes))) (g.D.Disk.told c.args.disk.now) (g.D.Disk.told c.put.new.disk)) bytes
    (c.put.ensures.leaves (map group_bytes groups) carried))

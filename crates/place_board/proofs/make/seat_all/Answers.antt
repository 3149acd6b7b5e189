use Rattle.std.proofs.Common.{◌≡◌, ◌+◌, List, ◌++◌, [], ◌∷◌, sym, ap, ◌∙◌}
use Rattle.atomic_table.specs.Seated.{TableId}
use Rattle.place_board.specs.Tokens.{Serving, Listing, new_services, new_list}
use Rattle.place_board.proofs.Becoming.{more_services}
use Rattle.place_board.proofs.make.seat_all.Goals as goal

pub seats-init : goal.seats-init
seats-init c = record { list = c.requires.first; seats = c.new-seats.ensures.items }

pub seat_one-requires-clause-before : goal.seat_one-requires-clause-before
seat_one-requires-clause-before c = sym (ap (λ (l : Listing). l.services) c.seats.invariant.list)

pub seats-preserved : goal.seats-preserved
seats-preserved c =
    let i = c.seats.invariant in
    let n = c.seats.before in
    let z = c.seats.list.noted.board in
    let w : TableId = c.seat_one.new.self.noted.board in
    let board : w ≡ z = c.seat_one.ensures.board in
    record {
      list = c.in_ok-seat_one.ensures.list ∙ (ap (λ (l : Listing). record l { services = n + 1 }) i.list ∙ ap (λ (y : TableId). new_list y (n + 1)) (sym board));
      seats = c.in_ok-push.ensures.items
          ∙ (ap (λ (l : List Serving). l ++ c.in_ok-seat_one.field-0 ∷ []) i.seats
          ∙ (ap (λ (s : Serving). new_services z n ++ s ∷ []) c.in_ok-seat_one.ensures.seat
          ∙ (more_services z n ∙ ap (λ (y : TableId). new_services y (n + 1)) (sym board))));
    }

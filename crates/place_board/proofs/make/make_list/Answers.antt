use Rattle.std.proofs.Common.{[], ◌∷◌, sym, subst}
use Rattle.place_board.specs.Views.{first_list}
use Rattle.place_board.specs.PlaceRule.{PlaceRule}
use Rattle.place_board.proofs.Asking.{first_asked}
use Rattle.place_board.proofs.make.make_list.Goals as goal

pub of_words-requires : goal.of_words-requires
of_words-requires c = subst (λ words. PlaceRule words (first_list ∷ [])) (sym c.deref.ensures.value) (first_asked c.in_ok-words.words.items c.in_ok-words.ensures.long c.in_ok-words.ensures.zero)

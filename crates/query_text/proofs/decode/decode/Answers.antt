use Rattle.std.proofs.Common.{List, ℕ, sym, subst}
use Rattle.query_text.specs.Texts.{AreCharacters}
use Rattle.query_text.proofs.Decoding.{are_characters}
use Rattle.query_text.proofs.decode.decode.Goals as goal

pub returns : goal.returns
returns c =
    let front = c.valid_front in
    subst (λ (x : List ℕ). AreCharacters c.args.bytes.now x front.result.1.now) (sym c.in_ok-characters.ensures)
    (are_characters c.args.bytes.now front.result.0.now front.result.1.now front.ensures.cut front.ensures.utf8 front.ensures.bad)

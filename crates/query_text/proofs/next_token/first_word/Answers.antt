use Rattle.std.proofs.Common.{ℕ, List, Some, take, sym, subst}
use Rattle.query_text.specs.declared.kind.TokenKind.TheVariants as kinds
use Rattle.query_text.specs.Texts.{BeginsWith}
use Rattle.query_text.specs.Reading.{IsFirst}
use Rattle.query_text.proofs.Longest.{length_of}
use Rattle.query_text.proofs.Alone.{counted_first}
use Rattle.query_text.proofs.next_token.first_word.Goals as goal

pub split_at-requires : goal.split_at-requires
split_at-requires c =
    let text = c.args.text.now in
    let counted = c.word_length.result in
    length_of text (kinds.Word, counted) (counted_first text counted c.requires.letter c.requires.alone c.word_length.ensures)

pub returns : goal.returns
returns c =
    let text = c.args.text.now in
    let counted = c.word_length.result in
    let first : IsFirst text (Some (kinds.Word, counted)) = counted_first text counted c.requires.letter c.requires.alone c.word_length.ensures in
    subst (λ (x : List ℕ). BeginsWith text (record { kind = kinds.Word; characters = x }) c.split_at.result.1.now) (sym c.split_at.ensures.front)
    (subst (BeginsWith text (record { kind = kinds.Word; characters = take counted text })) (sym c.split_at.ensures.back) first.1)

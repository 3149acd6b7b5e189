-- Chains of meets: what one token knew, another that stands behind it knows.
use Rattle.std.proofs.Common.{◌≡◌, ℕ, ◌*◌, ◌<◌, refl, ◌∙◌, arith}
use Rattle.base_core.specs.Lists.{Has}
use Rattle.place_board.specs.Words.{IsKnown}
use Rattle.place_board.specs.Tokens.{Noted, Serving, Listing, IsSoundSeat, IsSoundList, met, Reaches}
use Rattle.place_board.proofs.Members.{has_left, has_right}

pub reaches_self : (n : Noted) → Reaches n n
reaches_self n = record { board = refl; knows = λ k has. has; dead = λ m has. has; once = λ m has. has; counts = λ c has. has }

pub reaches_on : (one other third : Noted) → Reaches one other → Reaches other third → Reaches one third
reaches_on one other third r s = record {
  board = r.board ∙ s.board;
  knows = λ k has. s.knows k (r.knows k has);
  dead = λ m has. s.dead m (r.dead m has);
  once = λ m has. s.once m (r.once m has);
  counts = λ c has. s.counts c (r.counts c has);
}

-- a token that met another stands behind both
pub reaches_met : (one other : Noted) → other.board ≡ one.board → Reaches one (met one other) × Reaches other (met one other)
reaches_met one other same = (
  record {
    board = refl;
    knows = λ k has. has_left one.knows other.knows k has;
    dead = λ m has. has_left one.dead other.dead m has;
    once = λ m has. has_left one.once other.once m has;
    counts = λ c has. has_left one.counts other.counts c has;
  },
  record {
    board = same;
    knows = λ k has. has_right one.knows other.knows k has;
    dead = λ m has. has_right one.dead other.dead m has;
    once = λ m has. has_right one.once other.once m has;
    counts = λ c has. has_right one.counts other.counts c has;
  },
)

-- a number that a service bears next is none that the service knows, and so none that a note which it met knows
pub born_unknown : (s : Serving) → IsSoundSeat s → s.next < s.service * 2048 → ¬ IsKnown s.noted.knows s.next
born_unknown s sound room known = let lt = sound.above s.next known (room, sound.next.1) in omega arith

-- a listed number is none that the list has as dead
pub listed_not_dead : (l : Listing) (n : ℕ) → IsSoundList l → Has l.listed n → ¬ Has l.noted.dead n
listed_not_dead l n sound listed dead = (sound.dead n dead).1 listed

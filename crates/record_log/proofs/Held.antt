-- A log whose next record stands whole behind its last gate, whatever stands at that gate.
use Rattle.std.proofs.Common.{◌≡◌, ◌≢◌, ℕ, ◌+◌, ◌<◌, ◌≤◌, ◌⊎◌, List, [], ◌∷◌, ◌++◌, length, take, drop, get_or, set, refl, sym, ◌∙◌, ap, inl, inr, arith}
use Rattle.std.proofs.lemmas.Bool.{cases_eq, cases_lt}
use Rattle.std.proofs.lemmas.List.{append-nil, append_assoc, length-append, take-append-drop, drop_more, get_or-take, get_or_append_left, get_or_at, ext_get_or, length-take-le, length-set, set-set, set-get_or, set_at, get_or-set_same, get_or-set_other}
use Rattle.disk_core.specs.Files.{with_bytes}
use Rattle.disk_core.proofs.Writing.{with_bytes_at}
use Rattle.record_log.specs.Logs.{IsEitherLog}
use Rattle.base_core.specs.Numbers.{length_bytes}
use Rattle.record_log.specs.Records.{Spells, size_of}
use Rattle.record_log.proofs.Spelled.{record_bytes, IsShort, AreAllShort, spelled, length-spelled, spelled-append, all_short-append, IsSpelled, spelled_from, Spells_from_spelled}

-- ---- the front of a log decides

-- a log has its last gate
pub spelled_size : (bytes : List ℕ) (bodies : List (List ℕ)) → Spells bytes bodies → size_of bodies < length bytes
spelled_size bytes bodies spells =
    let is : IsSpelled bytes bodies = spelled_from bytes bodies spells in
    omega (arith, ap length is.are, length-append (spelled bodies) (is.gate ∷ is.rest), length-spelled bodies)

-- the last gate is closed
pub last_gate : (bytes : List ℕ) (bodies : List (List ℕ)) → Spells bytes bodies → get_or bytes (size_of bodies) 0 ≢ 1
last_gate bytes bodies spells opened =
    let is : IsSpelled bytes bodies = spelled_from bytes bodies spells in
    is.closed (sym (ap (λ (list : List ℕ). get_or list (size_of bodies) 0) is.are ∙ get_or_at (spelled bodies) is.gate is.rest 0 (size_of bodies) (length-spelled bodies)) ∙ opened)

-- bytes that are the same up to the last gate spell the same
pub same_front : (bodies : List (List ℕ)) (image before : List ℕ) → Spells before bodies → length before ≤ length image
    → ((place : ℕ) → place < size_of bodies + 1 → get_or before place 0 ≡ get_or image place 0) → Spells image bodies
same_front bodies image before spells long same =
    let is : IsSpelled before bodies = spelled_from before bodies spells in
    let n : ℕ = size_of bodies in
    let enough : n < length before = spelled_size before bodies spells in
    let size : length (spelled bodies) ≡ n = length-spelled bodies in
    let fits : length (take n image) ≡ n = length-take-le n image (omega arith) in
    let front : take n image ≡ spelled bodies =
    ext_get_or 0 (take n image) (spelled bodies) (fits ∙ sym size)
    (λ place within. get_or-take n image place 0 (omega arith) ∙ sym (same place (omega arith)) ∙ ap (λ (list : List ℕ). get_or list place 0) is.are
    ∙ get_or_append_left (spelled bodies) (is.gate ∷ is.rest) 0 place (omega arith)) in
    let gate : get_or image n 0 ≡ get_or before n 0 = sym (same n (omega arith)) in
    Spells_from_spelled image bodies (record {
      gate = get_or image n 0;
      rest = drop (n + 1) image;
      closed = λ opened. last_gate before bodies spells (sym gate ∙ opened);
      short = is.short;
      are = sym (take-append-drop n image) ∙ ap (λ (list : List ℕ). list ++ drop n image) front ∙ ap (λ (list : List ℕ). spelled bodies ++ list) (drop_more image n 0 (omega arith));
    })

-- ---- any byte at the gate

-- the records of these bodies, any byte at the gate behind them, and a record of one more body, with a closed gate
pub record IsHeld (image : List ℕ) (bodies : List (List ℕ)) (body : List ℕ) : Type 0 where
  pub gate : ℕ
  pub next : ℕ
  pub rest : List ℕ
  pub closed : next ≢ 1
  pub short : AreAllShort bodies
  pub short_body : IsShort body
  pub are : image ≡ spelled bodies ++ gate ∷ (record_bytes body ++ next ∷ rest)

-- with the gate opened, the image spells one body more
abbrev pub Opens : List (List ℕ) → List ℕ → List ℕ → Type 0
Opens bodies body image = Spells (set image (size_of bodies) 1) (bodies ++ body ∷ [])

-- one record more, with its gate first
one_more : (bodies : List (List ℕ)) (body : List ℕ) (next : ℕ) (rest : List ℕ) → spelled (bodies ++ body ∷ []) ++ next ∷ rest ≡ spelled bodies ++ 1 ∷ (record_bytes body ++ next ∷ rest)
one_more bodies body next rest =
    ap (λ (bytes : List ℕ). bytes ++ next ∷ rest) (spelled-append bodies (body ∷ []) ∙ ap (λ (bytes : List ℕ). spelled bodies ++ 1 ∷ bytes) (append-nil (record_bytes body)))
    ∙ append_assoc (spelled bodies) (1 ∷ record_bytes body) (next ∷ rest)

last_short : (bodies : List (List ℕ)) (body : List ℕ) → AreAllShort (bodies ++ body ∷ []) → AreAllShort bodies × IsShort body
last_short [] body short = (tt, short.0)
last_short (first ∷ bodies) body short = let onward : AreAllShort bodies × IsShort body = last_short bodies body short.1 in ((short.0, onward.0), onward.1)

pub held_from : (image : List ℕ) (bodies : List (List ℕ)) (body : List ℕ) → Opens bodies body image → IsHeld image bodies body
held_from image bodies body opens =
    let n : ℕ = size_of bodies in
    let opened : List ℕ = set image n 1 in
    let is : IsSpelled opened (bodies ++ body ∷ []) = spelled_from opened (bodies ++ body ∷ []) opens in
    let behind : List ℕ = record_bytes body ++ is.gate ∷ is.rest in
    let are : opened ≡ spelled bodies ++ 1 ∷ behind = is.are ∙ one_more bodies body is.gate is.rest in
    let back : image ≡ set opened n (get_or image n 0) = sym (set-set image n 1 (get_or image n 0) ∙ set-get_or image n 0) in
    let short : AreAllShort bodies × IsShort body = last_short bodies body is.short in
    record {
      gate = get_or image n 0;
      next = is.gate;
      rest = is.rest;
      closed = is.closed;
      short = short.0;
      short_body = short.1;
      are = back ∙ ap (λ (list : List ℕ). set list n (get_or image n 0)) are ∙ set_at (spelled bodies) 1 behind (get_or image n 0) n (length-spelled bodies);
    }

-- an open gate takes the record in
pub held_open : (image : List ℕ) (bodies : List (List ℕ)) (body : List ℕ) → (is : IsHeld image bodies body) → is.gate ≡ 1 → Spells image (bodies ++ body ∷ [])
held_open image bodies body is opened =
    Spells_from_spelled image (bodies ++ body ∷ []) (record {
      gate = is.next;
      rest = is.rest;
      closed = is.closed;
      short = all_short-append bodies (body ∷ []) is.short (is.short_body, tt);
      are = is.are ∙ ap (λ (gate : ℕ). spelled bodies ++ gate ∷ (record_bytes body ++ is.next ∷ is.rest)) opened ∙ sym (one_more bodies body is.next is.rest);
    })

-- a closed one leaves it out
pub held_closed : (image : List ℕ) (bodies : List (List ℕ)) (body : List ℕ) → (is : IsHeld image bodies body) → is.gate ≢ 1 → Spells image bodies
held_closed image bodies body is closed =
    Spells_from_spelled image bodies (record { gate = is.gate; rest = record_bytes body ++ is.next ∷ is.rest; closed = closed; short = is.short; are = is.are })

pub opens_from : (image : List ℕ) (bodies : List (List ℕ)) (body : List ℕ) → IsHeld image bodies body → Opens bodies body image
opens_from image bodies body is =
    let n : ℕ = size_of bodies in
    let behind : List ℕ = record_bytes body ++ is.next ∷ is.rest in
    let are : set image n 1 ≡ spelled bodies ++ 1 ∷ behind =
    ap (λ (list : List ℕ). set list n 1) is.are ∙ set_at (spelled bodies) is.gate behind 1 n (length-spelled bodies) in
    held_open (set image n 1) bodies body
    (record { gate = 1; next = is.next; rest = is.rest; closed = is.closed; short = is.short; short_body = is.short_body; are = are }) refl

-- what stands at the gate
pub held_gate : (image : List ℕ) (bodies : List (List ℕ)) (body : List ℕ) → (is : IsHeld image bodies body) → get_or image (size_of bodies) 0 ≡ is.gate
held_gate image bodies body is =
    ap (λ (list : List ℕ). get_or list (size_of bodies) 0) is.are ∙ get_or_at (spelled bodies) is.gate (record_bytes body ++ is.next ∷ is.rest) 0 (size_of bodies) (length-spelled bodies)

pub held_size : (image : List ℕ) (bodies : List (List ℕ)) (body : List ℕ) → IsHeld image bodies body → size_of bodies < length image
held_size image bodies body is =
    omega (arith, ap length is.are, length-append (spelled bodies) (is.gate ∷ (record_bytes body ++ is.next ∷ is.rest)), length-spelled bodies)

-- either way it is a log
pub either_log : (image : List ℕ) (bodies : List (List ℕ)) (body : List ℕ) → Opens bodies body image → IsEitherLog bodies body image
either_log image bodies body opens =
    let is : IsHeld image bodies body = held_from image bodies body opens in
    elim (cases_eq is.gate 1) [ inl opened ↦ inr (inr (held_open image bodies body is opened)) | inr closed ↦ inl (inr (held_closed image bodies body is closed)) ]

beside : (place n : ℕ) → place ≢ n → (place < n) ⊎ (n + 1 ≤ place)
beside place n apart = elim (cases_lt place n) [ inl before ↦ inl before | inr behind ↦ inr (omega arith) ]

-- bytes that are the same but at the gate
pub same_opened : (image before : List ℕ) (n : ℕ) → length before ≡ length image
    → ((place : ℕ) → place < length before → (place < n) ⊎ (n + 1 ≤ place) → get_or before place 0 ≡ get_or image place 0) → set before n 1 ≡ set image n 1
same_opened image before n long same =
    ext_get_or 0 (set before n 1) (set image n 1) (length-set before n 1 ∙ long ∙ sym (length-set image n 1))
    (λ place within. let inside : place < length before = omega (arith, length-set before n 1) in
    elim (cases_eq place n) [
      | inl here ↦
          ap (λ (at : ℕ). get_or (set before n 1) at 0) here ∙ get_or-set_same before n 1 0 (omega arith)
          ∙ sym (ap (λ (at : ℕ). get_or (set image n 1) at 0) here ∙ get_or-set_same image n 1 0 (omega arith))
      | inr apart ↦
          get_or-set_other before n place 1 0 apart ∙ same place inside (beside place n apart) ∙ sym (get_or-set_other image n place 1 0 apart)
    ])

-- ---- writes

-- a record that is written behind the last gate stands whole there
pub held_record : (content : List ℕ) (bodies : List (List ℕ)) (body bytes : List ℕ) → Spells content bodies → IsShort body
    → bytes ≡ length_bytes (length body) ++ body ++ 0 ∷ [] → IsHeld (with_bytes content (size_of bodies + 1) bytes) bodies body
held_record content bodies body bytes spells short are =
    let is : IsSpelled content bodies = spelled_from content bodies spells in
    let n : ℕ = size_of bodies in
    let front : List ℕ = spelled bodies ++ is.gate ∷ [] in
    let reach : length front ≡ n + 1 = omega (arith, length-append (spelled bodies) (is.gate ∷ []), length-spelled bodies) in
    let parts : content ≡ front ++ is.rest = is.are ∙ sym (append_assoc (spelled bodies) (is.gate ∷ []) is.rest) in
    let some : 0 < length bytes = omega (arith, ap length are, length-append (record_bytes body) (0 ∷ [])) in
    let after : List ℕ = drop (length bytes) is.rest in
    record {
      gate = is.gate;
      next = 0;
      rest = after;
      closed = λ opened. omega arith;
      short = is.short;
      short_body = short;
      are = ap (λ (list : List ℕ). with_bytes list (n + 1) bytes) parts ∙ with_bytes_at front is.rest bytes (n + 1) some reach
          ∙ append_assoc (spelled bodies) (is.gate ∷ []) (bytes ++ after)
          ∙ ap (λ (list : List ℕ). spelled bodies ++ is.gate ∷ (list ++ after)) are
          ∙ ap (λ (list : List ℕ). spelled bodies ++ is.gate ∷ list) (append_assoc (record_bytes body) (0 ∷ []) after);
    }

-- a byte that is written at the gate
pub held_written : (content : List ℕ) (bodies : List (List ℕ)) (body : List ℕ) (byte : ℕ) → (is : IsHeld content bodies body)
    → with_bytes content (size_of bodies) (byte ∷ []) ≡ spelled bodies ++ byte ∷ (record_bytes body ++ is.next ∷ is.rest)
held_written content bodies body byte is =
    let behind : List ℕ = record_bytes body ++ is.next ∷ is.rest in
    ap (λ (list : List ℕ). with_bytes list (size_of bodies) (byte ∷ [])) is.are
    ∙ with_bytes_at (spelled bodies) (is.gate ∷ behind) (byte ∷ []) (size_of bodies) (omega arith) (length-spelled bodies)

abbrev pub held_with : (content : List ℕ) (bodies : List (List ℕ)) (body : List ℕ) (byte : ℕ) → (is : IsHeld content bodies body)
    → IsHeld (with_bytes content (size_of bodies) (byte ∷ [])) bodies body
held_with content bodies body byte is =
    record { gate = byte; next = is.next; rest = is.rest; closed = is.closed; short = is.short; short_body = is.short_body; are = held_written content bodies body byte is }

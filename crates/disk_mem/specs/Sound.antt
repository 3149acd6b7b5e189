-- Private: what reads give of a file, and what its last sync stored, are among its images, after any calls.
use Rattle.std.proofs.Common.{◌≡◌, ℕ, ◌+◌, ◌-◌, ◌<◌, ◌≤◌, ◌==◌, List, [], ◌∷◌, ◌++◌, length, take, drop, replicate, min, max, get_or, true, false, if◌then◌else◌, refl, ap, ◌∙◌, inl, inr, arith, length-append, length-drop}
use Rattle.std.proofs.lemmas.List.{length-take, length-replicate, get_or_append_left, get_or-append_right, get_or-take, get_or-drop}
use Rattle.std.proofs.lemmas.Bool.{cases_lt}
use Rattle.disk_core.specs.Files.{FileState, IsImage, IsSound, with_bytes, written, removed}
use Rattle.disk_core.specs.Moments.{State, Told, IsSoundState}
use Rattle.disk_mem.specs.Replay.{begun, replayed, told_after, state_after, changed_by, file_of, stored_file}
use Rattle.disk_mem.specs.declared.call.Call.{Call}
use Rattle.disk_mem.specs.declared.call.Call.TheVariants.{Write, Sync, Remove}

-- what stands before the bytes of a write
abbrev front : List ℕ → ℕ → List ℕ
front old at = take at old ++ replicate (at - length old) 0

length-front : (old : List ℕ) (at : ℕ) → length (front old at) ≡ at
length-front old at =
    omega (arith, length-append (take at old) (replicate (at - length old) 0), length-take at old, length-replicate {A = ℕ} (at - length old) 0)

length-with_bytes : (old : List ℕ) (at b : ℕ) (bytes : List ℕ) → length (with_bytes old at (b ∷ bytes)) ≡ max (length old) (at + length (b ∷ bytes))
length-with_bytes old at b bytes =
    omega (arith, length-append (front old at ++ (b ∷ bytes)) (drop (at + length (b ∷ bytes)) old), length-append (front old at) (b ∷ bytes), length-front old at, length-drop (at + length (b ∷ bytes)) old)

-- before the write all is as it was
before : (old : List ℕ) (at b : ℕ) (bytes : List ℕ) (place : ℕ) → place < at → place < length old
    → get_or (with_bytes old at (b ∷ bytes)) place 0 ≡ get_or old place 0
before old at b bytes place low within =
    get_or_append_left {A = ℕ} (front old at ++ (b ∷ bytes)) (drop (at + length (b ∷ bytes)) old) 0 place (omega (arith, length-append (front old at) (b ∷ bytes), length-front old at))
    ∙ get_or_append_left {A = ℕ} (front old at) (b ∷ bytes) 0 place (omega (arith, length-front old at))
    ∙ get_or_append_left {A = ℕ} (take at old) (replicate (at - length old) 0) 0 place (omega (arith, length-take at old))
    ∙ get_or-take {A = ℕ} at old place 0 low

-- and behind it
behind : (old : List ℕ) (at b : ℕ) (bytes : List ℕ) (place : ℕ) → at + length (b ∷ bytes) ≤ place
    → get_or (with_bytes old at (b ∷ bytes)) place 0 ≡ get_or old place 0
behind old at b bytes place high =
    let end : ℕ = at + length (b ∷ bytes) in
    get_or-append_right (front old at ++ (b ∷ bytes)) (drop end old) end place 0 (length-append (front old at) (b ∷ bytes) ∙ ap (λ n. n + length (b ∷ bytes)) (length-front old at)) high
    ∙ get_or-drop end old (place - end) 0 ∙ ap (λ n. get_or old n 0) (omega arith)

-- an image of a file is one after a write has begun
stays : (file : FileState) (image : List ℕ) (at : ℕ) (bytes : List ℕ) → IsImage file image → IsImage (written file at bytes) image
stays file image at bytes is = record {
  not_shorter = is.not_shorter;
  not_longer = omega (arith, is.not_longer);
  others = λ place within apart. is.others place within (λ touched. apart (inr touched));
}

outside : (old : List ℕ) (at b : ℕ) (bytes : List ℕ) (place : ℕ) → ((min at (length old) ≤ place) × (place < at + length (b ∷ bytes)) → ⊥) → place < length (with_bytes old at (b ∷ bytes))
    → (place < length old) × (get_or (with_bytes old at (b ∷ bytes)) place 0 ≡ get_or old place 0)
outside old at b bytes place apart within =
    elim (cases_lt place (min at (length old))) [
      | inl low ↦ (omega arith, before old at b bytes place (omega arith) (omega arith))
      | inr high ↦ elim (cases_lt place (at + length (b ∷ bytes))) [
        | inl inside ↦ absurd (apart (high, inside))
        | inr past ↦ (omega (arith, length-with_bytes old at b bytes), behind old at b bytes place past)
      ]
    ]

written_is_sound : (file : FileState) (at : ℕ) (bytes : List ℕ) → IsSound file → IsSound (written file at bytes)
written_is_sound file at [] is = record { content = stays file file.content at [] is.content; stored = stays file file.stored at [] is.stored }
written_is_sound file at (b ∷ bytes) is = record {
  content = record {
    not_shorter = omega (arith, length-with_bytes file.content at b bytes, is.content.not_shorter);
    not_longer = omega (arith, length-with_bytes file.content at b bytes, is.content.not_longer);
    others = λ place within apart.
        let same = outside file.content at b bytes place (λ touched. apart (inl touched)) within in
        same.1 ∙ is.content.others place same.0 (λ touched. apart (inr touched));
  };
  stored = stays file file.stored at (b ∷ bytes) is.stored;
}

stored_is_sound : (bytes : List ℕ) → IsSound (stored_file bytes)
stored_is_sound bytes =
    let is : IsImage (stored_file bytes) bytes = record { not_shorter = omega arith; not_longer = omega arith; others = λ place within apart. refl } in
    record { content = is; stored = is }

removed_is_sound : (file : FileState) → IsSound file → IsSound (removed file)
removed_is_sound file is = record {
  content = record { not_shorter = omega arith; not_longer = omega arith; others = λ place within apart. absurd (omega arith) };
  stored = record { not_shorter = omega arith; not_longer = is.stored.not_longer; others = is.stored.others };
}

changed_is_sound : (call : Call) (file : FileState) → IsSound file → IsSound (changed_by call file)
changed_is_sound (Write number at bytes) file is = written_is_sound file at bytes.items is
changed_is_sound (Sync number) file is = stored_is_sound file.content
changed_is_sound (Remove number) file is = removed_is_sound file is

after_is_sound : (state : State) (call : Call) → IsSoundState state → IsSoundState (state_after state call)
after_is_sound state call is file =
    elim (file == file_of call) as (λ b. IsSound (if b then changed_by call (state file) else state file)) [
      | true ↦ changed_is_sound call (state file) (is file)
      | false ↦ is file
    ]

replayed-sound : (told : Told) (calls : List Call) → IsSoundState told.now → IsSoundState (replayed told calls).now
replayed-sound told [] is = is
replayed-sound told (call ∷ calls) is = replayed-sound (told_after told call) calls (after_is_sound told.now call is)

pub replayed_is_sound : (bytes : ℕ → List ℕ) (calls : List Call) → IsSoundState (replayed (begun bytes) calls).now
replayed_is_sound bytes calls = replayed-sound (begun bytes) calls (λ file. stored_is_sound (bytes file))

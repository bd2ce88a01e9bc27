-- Lists of tokens, each a part of one list.
use Rattle.std.proofs.Common.{◌≡◌, ◌∙◌, ℕ, zero, suc, ◌+◌, ◌-◌, ◌<◌, ◌≤◌, get_or, List, [], ◌∷◌, ◌++◌, length, take, drop, refl, sym, ap, subst, arith, All, Option, Some, None, option_map, slice_get, nat_eq}
use Rattle.std.specs.Prelude.{unwrap_or}
use Rattle.std.proofs.lemmas.List.{take-append-le, drop-append-le, drop-drop, drop_at, get_or-drop, length-map, length-drop, take_rest, take_more, map-append, append_assoc}
use Rattle.std.proofs.Math.ListN.{get_or-map}
use Rattle.std.proofs.lemmas.List.Elements.{All-take, All-drop}
use Rattle.std.proofs.lemmas.List.Edits.{length-between}
use Rattle.std.proofs.lemmas.Option.{slice_get-map}
use Rattle.std.proofs.lemmas.Bool.Decides.{nat_tests}
use Rattle.pp_model.specs.Calls.{is_one_empty}
use Rattle.pp_model.specs.declared.read.Read.{Read}
use Rattle.pp_macros.specs.inner.Frames.{argument_at}
use Rattle.pp_macros.proofs.open_frames.FrameLemmas.{drop-some, drop-none}
use Rattle.pp_macros.specs.declared.argument_lists.Part.{Part}
use Rattle.pp_macros.specs.inner.Parts.{list_of, lists_of, AreInOrder, addition, next_read, after_read}

in_order_apart : (from to : ℕ) (parts : List Part) → AreInOrder from parts to → from ≤ to
in_order_apart from to [] h = h
in_order_apart from to (part ∷ parts) h = let rest = in_order_apart part.end to parts h.2 in omega (arith, h.0, h.1, rest)

-- the first part is within the positions, and the others after it
pub first_within : (from to : ℕ) (part : Part) (parts : List Part) → AreInOrder from (part ∷ parts) to
    → (from ≤ part.start) × (part.start ≤ part.end) × (part.end ≤ to)
first_within from to part parts h = (h.0, h.1, in_order_apart part.end to parts h.2)

-- each part is within the positions
pub part_within : (from to : ℕ) (parts : List Part) (k : ℕ) (part : Part) → AreInOrder from parts to → slice_get parts k ≡ Some part
    → (part.start ≤ part.end) × (part.end ≤ to)
part_within from to [] k part h at = cc
part_within from to (first ∷ parts) zero part h at =
    let is : first ≡ part = cc in
    let within : (first.start ≤ first.end) × (first.end ≤ to) = (h.1, in_order_apart first.end to parts h.2) in
    rw is at within
part_within from to (first ∷ parts) (suc k) part h at = part_within first.end to parts k part h.2 at

-- the argument with the index of a part
pub argument_is : (tokens : List Read) (parts : List Part) (k : ℕ) (part : Part) → slice_get parts k ≡ Some part
    → argument_at (lists_of tokens parts) k ≡ list_of tokens part
argument_is tokens parts k part at =
    ap (λ (o : Option (List Read)). unwrap_or o []) (slice_get-map (list_of tokens) parts k ∙ ap (option_map (list_of tokens)) at)

-- one list is empty if its part has no token
pub one_empty_is : (tokens : List Read) (parts : List Part) (d : Part) → length parts ≡ 1 → AreInOrder 0 parts (length tokens)
    → nat_eq (get_or parts 0 d).start (get_or parts 0 d).end ≡ is_one_empty (lists_of tokens parts)
one_empty_is tokens [] d one h = cc
one_empty_is tokens (part ∷ (next ∷ parts)) d one h = absurd (omega (arith, one))
one_empty_is tokens (part ∷ []) d one h =
    same (list_of tokens part) (length-between tokens part.start part.end h.2) h.1
  where
    same : (list : List Read) → length list ≡ part.end - part.start → part.start ≤ part.end → nat_eq part.start part.end ≡ is_one_empty (list ∷ [])
    same [] few within = grind (arith, nat_tests)
    same (read ∷ list) few within = grind (arith, nat_tests)

-- a part with a token has the token at its start, and then those after it
pub part_starts : (tokens : List Read) (part : Part) (read : Read) → part.start < part.end → slice_get tokens part.start ≡ Some read
    → list_of tokens part ≡ read ∷ list_of tokens (record part { start = part.start + 1 })
part_starts tokens part read some at =
    let more : part.end - part.start ≡ suc (part.end - (part.start + 1)) = omega (arith, some) in
    ap (λ (n : ℕ). take n (drop part.start tokens)) more ∙ ap (take (suc (part.end - (part.start + 1)))) (drop-some tokens part.start read at)

-- one that starts after the tokens has none
take-nothing : (n : ℕ) → take {A = Read} n [] ≡ []
take-nothing zero = refl
take-nothing (suc n) = refl

part_beyond : (tokens : List Read) (part : Part) → slice_get tokens part.start ≡ None → list_of tokens part ≡ []
part_beyond tokens part none = ap (take (part.end - part.start)) (drop-none tokens part.start none) ∙ take-nothing (part.end - part.start)

part_past : (tokens : List Read) (part : Part) → slice_get tokens part.start ≡ None
    → list_of tokens (record part { start = part.start + 1 }) ≡ []
part_past tokens part none =
    let empty : drop (part.start + 1) tokens ≡ [] = sym (drop-drop 1 part.start tokens) ∙ ap (drop 1) (drop-none tokens part.start none) in
    ap (take (part.end - (part.start + 1))) empty ∙ take-nothing (part.end - (part.start + 1))

-- one without a token gives none
pub part_empty : (tokens : List Read) (part : Part) → part.end ≤ part.start → next_read (Some (list_of tokens part)) ≡ None
part_empty tokens part low =
    let none : part.end - part.start ≡ 0 = omega (arith, low) in
    ap (λ (n : ℕ). next_read (Some (take n (drop part.start tokens)))) none

-- the next token of a part
pub part_next : (tokens : List Read) (part : Part) → part.start < part.end → slice_get tokens part.start ≡ next_read (Some (list_of tokens part))
part_next tokens part some = go (slice_get tokens part.start) refl
  where
    go : (o : Option Read) → slice_get tokens part.start ≡ o → slice_get tokens part.start ≡ next_read (Some (list_of tokens part))
    go None e = rw (e, part_beyond tokens part e) refl
    go (Some read) e = rw (e, part_starts tokens part read some e) refl

-- what is left of a part after it
pub part_after : (tokens : List Read) (part : Part) → part.start < part.end
    → Some (list_of tokens (record part { start = part.start + 1 })) ≡ after_read (Some (list_of tokens part))
part_after tokens part some = go (slice_get tokens part.start) refl
  where
    go : (o : Option Read) → slice_get tokens part.start ≡ o
        → Some (list_of tokens (record part { start = part.start + 1 })) ≡ after_read (Some (list_of tokens part))
    go None e = rw (part_beyond tokens part e, part_past tokens part e) refl
    go (Some read) e = rw (part_starts tokens part read some e) refl

-- one more part, after the others
pub in_order_push : (from to beyond : ℕ) (parts : List Part) (part : Part) → AreInOrder from parts to → to ≤ part.start → part.start ≤ part.end
    → part.end ≤ beyond → AreInOrder from (parts ++ part ∷ []) beyond
in_order_push from to beyond [] part h low within high = (omega (arith, h, low), within, high)
in_order_push from to beyond (first ∷ parts) part h low within high =
    (h.0, h.1, in_order_push first.end to beyond parts part h.2 low within high)

-- what is so of each list is so of the list of a part
pub part_has : (P : List Read → Type 0) (tokens : List Read) (parts : List Part) (k : ℕ) (d : Part) → k < length parts → All P (lists_of tokens parts)
    → P (list_of tokens (get_or parts k d))
part_has P tokens parts k d within all =
    subst P (get_or-map (list_of tokens) parts k d) (all k (list_of tokens d) (simp length-map within))

-- what is so of each token is so of each token of a part
pub part_all : (P : Read → Type 0) (tokens : List Read) (part : Part) → All P tokens → All P (list_of tokens part)
part_all P tokens part all = All-take P (part.end - part.start) (drop part.start tokens) (All-drop P part.start tokens all)

-- what is put after the tokens changes no part of them
pub lists_kept : (from : ℕ) (tokens more : List Read) (parts : List Part) → AreInOrder from parts (length tokens)
    → lists_of (tokens ++ more) parts ≡ lists_of tokens parts
lists_kept from tokens more [] h = refl
lists_kept from tokens more (part ∷ parts) h =
    let within = first_within from (length tokens) part parts h in
    let start : part.start ≤ length tokens = omega (arith, within.1, within.2) in
    let few : part.end - part.start ≤ length (drop part.start tokens) = simp length-drop (omega (arith, within.2)) in
    let here : list_of (tokens ++ more) part ≡ list_of tokens part =
    ap (take (part.end - part.start)) (drop-append-le part.start tokens more start) ∙ take-append-le (part.end - part.start) (drop part.start tokens) more few in
    ap (λ (list : List Read). list ∷ lists_of (tokens ++ more) parts) here
    ∙ ap (λ (lists : List (List Read)). list_of tokens part ∷ lists) (lists_kept part.end tokens more parts h.2)

pub added_is : (old new out : List Read) → new ≡ old ++ out → addition old new ≡ out
added_is old new out is = ap (drop (length old)) is ∙ drop_at old out (length old) refl

-- what was added is the last part
pub lists_more : (old new : List Read) (parts more : List Part) → AreInOrder 0 parts (length old) → new ≡ old ++ addition old new
    → more ≡ parts ++ record { start = length old; end = length new } ∷ [] → lists_of new more ≡ lists_of old parts ++ addition old new ∷ []
lists_more old new parts more order keeps is =
    let last : Part = record { start = length old; end = length new } in
    ap (lists_of new) is ∙ map-append (list_of new) parts (last ∷ [])
    ∙ ap (λ (lists : List (List Read)). lists ++ list_of new last ∷ [])
    (ap (λ (tokens : List Read). lists_of tokens parts) keeps ∙ lists_kept 0 old (addition old new) parts order)
    ∙ ap (λ (list : List Read). lists_of old parts ++ list ∷ []) (take_rest new (length old))

-- what comes after the tokens and one more
pub added_push : (old new more : List Read) (read : Read) → new ≡ old ++ addition old new → more ≡ new ++ read ∷ []
    → more ≡ old ++ (addition old new ++ read ∷ [])
added_push old new more read keeps is =
    is ∙ ap (λ (tokens : List Read). tokens ++ read ∷ []) keeps ∙ append_assoc old (addition old new) (read ∷ [])

-- the token at a place, where it and those after it are as they were
same_at : (old new : List Read) (k : ℕ) (d : Read) → drop k new ≡ drop k old → get_or new k d ≡ get_or old k d
same_at old new k d same =
    let here : k ≡ k + 0 = omega arith in
    ap (λ (n : ℕ). get_or new n d) here ∙ sym (get_or-drop k new 0 d) ∙ ap (λ (tokens : List Read). get_or tokens 0 d) same
    ∙ get_or-drop k old 0 d ∙ ap (λ (n : ℕ). get_or old n d) (sym here)

-- what stands after that place
pub same_beyond : (old new : List Read) (k : ℕ) → drop k new ≡ drop k old → drop (k + 1) new ≡ drop (k + 1) old
same_beyond old new k same = sym (drop-drop 1 k new) ∙ ap (drop 1) same ∙ drop-drop 1 k old

-- one more token is moved
pub moved_more : (tokens left before items more : List Read) (k : ℕ) (d read : Read) → k < length tokens → drop k left ≡ drop k tokens
    → items ≡ before ++ take k tokens → read ≡ get_or left k d → more ≡ items ++ read ∷ [] → more ≡ before ++ take (k + 1) tokens
moved_more tokens left before items more k d read within same moved is put =
    put ∙ ap (λ (xs : List Read). xs ++ read ∷ []) moved ∙ append_assoc before (take k tokens) (read ∷ [])
    ∙ ap (λ (x : Read). before ++ (take k tokens ++ x ∷ [])) (is ∙ same_at tokens left k d same)
    ∙ ap (λ (xs : List Read). before ++ xs) (sym (take_more tokens k d within))

-- the tokens of these parts, and all after them, are where they were
pub record AreLeft (old new : List Read) (parts : List Part) : Type 0 where
  pub from : ℕ
  pub same : drop from new ≡ drop from old
  pub order : AreInOrder from parts (length old)

pub left_start : (tokens : List Read) (parts : List Part) → AreInOrder 0 parts (length tokens) → AreLeft tokens tokens parts
left_start tokens parts order = record { from = 0; same = refl; order = order }

module _ (old new : List Read) (part : Part) (parts : List Part) (left : AreLeft old new (part ∷ parts)) where
  pub left_within : (part.start ≤ part.end) × (part.end ≤ length old)
  left_within = let within = first_within left.from (length old) part parts left.order in (within.1, within.2)

  same_after : (n : ℕ) → left.from ≤ n → drop n new ≡ drop n old
  same_after n far =
      let apart : left.from + (n - left.from) ≡ n = omega (arith, far) in
      ap (λ (k : ℕ). drop k new) (sym apart) ∙ sym (drop-drop (n - left.from) left.from new)
      ∙ ap (drop (n - left.from)) left.same ∙ drop-drop (n - left.from) left.from old ∙ ap (λ (k : ℕ). drop k old) apart

  -- the next part
  pub left_first : list_of new part ≡ list_of old part
  left_first = ap (take (part.end - part.start)) (same_after part.start left.order.0)

  -- the others, where only that part has changed
  pub left_rest : (after : List Read) → drop part.end after ≡ drop part.end new → AreLeft old after parts
  left_rest after same = record {
    from = part.end;
    same = same ∙ same_after part.end (omega (arith, left.order.0, left.order.1));
    order = left.order.2;
  }

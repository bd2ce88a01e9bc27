-- Other items in place of those from a position on: the number signs of directives still begin lines, each line still
-- ends, and no error is that of the end.
use Rattle.std.proofs.Common.{◌≡◌, ◌≢◌, ◌∙◌, ℕ, zero, suc, Bool, true, false, List, [], ◌∷◌, ◌++◌, drop, refl, sym}
use Rattle.pp_lexer.specs.Lexed.{Seen}
use Rattle.pp_model.specs.IncludeLaws.{are_whole_lines}
use Rattle.pp_model.specs.Lines.{ends_line}
use Rattle.pp_model.specs.Sights.{is_directive_hash}
use Rattle.pp_directives.specs.inner.Lined.{BeginsNoDirective, AreLined, AreEnded, ShowErrors}

-- These items can come after those: a line begins with them, or they go on with one.
pub data Follow (front rest : List Seen) : Type 0 where
  begins : are_whole_lines front ≡ true → Follow front rest
  goes_on : BeginsNoDirective rest → rest ≢ [] → Follow front rest

-- the same of all but the first of those before
follow_later : (s t : Seen) (front rest : List Seen) → Follow (s ∷ t ∷ front) rest → Follow (t ∷ front) rest
follow_later s t front rest (begins whole) = begins whole
follow_later s t front rest (goes_on none some) = goes_on none some

follow_lined : (s : Seen) (rest : List Seen) → Follow (s ∷ []) rest → ends_line s.item ≡ false → BeginsNoDirective rest
follow_lined s rest (begins whole) within = let bad : true ≡ false = sym whole ∙ within in cc
follow_lined s rest (goes_on none some) within = none

follow_ended : (s : Seen) (rest : List Seen) → Follow (s ∷ []) rest → ends_line s.item ≡ false → rest ≢ []
follow_ended s rest (begins whole) within = let bad : true ≡ false = sym whole ∙ within in cc
follow_ended s rest (goes_on none some) within = some

pub lined_joined : (front old rest : List Seen) → AreLined (front ++ old) → AreLined rest → Follow front rest → AreLined (front ++ rest)
lined_joined [] old rest before after follow = after
lined_joined (s ∷ []) old rest before after follow = (follow_lined s rest follow, after)
lined_joined (s ∷ t ∷ front) old rest before after follow =
    (before.0, lined_joined (t ∷ front) old rest before.1 after (follow_later s t front rest follow))

pub ended_joined : (front old rest : List Seen) → AreEnded (front ++ old) → AreEnded rest → Follow front rest → AreEnded (front ++ rest)
ended_joined [] old rest before after follow = after
ended_joined (s ∷ []) old rest before after follow = (follow_ended s rest follow, after)
ended_joined (s ∷ t ∷ front) old rest before after follow =
    (λ within none. cc, ended_joined (t ∷ front) old rest before.1 after (follow_later s t front rest follow))

pub shown_joined : (front old rest : List Seen) → ShowErrors (front ++ old) → ShowErrors rest → ShowErrors (front ++ rest)
shown_joined [] old rest before after = after
shown_joined (s ∷ front) old rest before after = (before.0, shown_joined front old rest before.1 after)

-- no error among some of them is that of the end
pub shown_after : (n : ℕ) (items : List Seen) → ShowErrors items → ShowErrors (drop n items)
shown_after zero [] h = h
shown_after (suc n) [] h = h
shown_after zero (s ∷ rest) h = h
shown_after (suc n) (s ∷ rest) h = shown_after n rest h.1

hash_ends : (t s : Seen) (last : Bool) → ends_line t.item ≡ last → (ends_line t.item ≡ false → is_directive_hash s.item ≡ false)
    → is_directive_hash s.item ≡ true → ends_line t.item ≡ true
hash_ends t s true is none hash = is
hash_ends t s false is none hash = let bad : true ≡ false = sym hash ∙ none is in cc

-- where the number sign of a directive stands, a line begins
pub hash_begins : (front : List Seen) (s : Seen) (rest : List Seen) → AreLined (front ++ s ∷ rest) → is_directive_hash s.item ≡ true
    → are_whole_lines front ≡ true
hash_begins [] s rest lined hash = refl
hash_begins (t ∷ []) s rest lined hash = hash_ends t s (ends_line t.item) refl lined.0 hash
hash_begins (t ∷ u ∷ front) s rest lined hash = hash_begins (u ∷ front) s rest lined.1 hash

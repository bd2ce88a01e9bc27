-- Tokens that are taken in a row, of which only the last may be a parenthesis.
use Rattle.std.proofs.Common.{◌≡◌, ◌∙◌, ◌<◌, ◌≤◌, ◌-◌, ℕ, Bool, true, false, ◌||◌, List, [], ◌∷◌, ◌++◌, length, arith, refl, sym, ap, subst, Some, slice_get, Ok, Err, get_or, take}
use Rattle.std.specs.Prelude.{if◌then◌else◌, ◌==◌, nat_lt, ◌+◌}
use Rattle.std.proofs.lemmas.List.Elements.{All-push}
use Rattle.std.proofs.lemmas.Option.{slice_get_within, get_or_from_slice_get}
use Rattle.pp_model.specs.Places.{place_of}
use Rattle.pp_model.specs.declared.place.Place.{Place}
use Rattle.pp_macros.proofs.open_frames.OpenMacroLemmas.{with_last}
use Rattle.pp_lexer.specs.declared.token.TokenValue.{TokenValue}
use Rattle.pp_model.specs.Painting.{painted_among}
use Rattle.pp_model.specs.declared.read.Read.{Read}
use Rattle.pp_model.specs.Calls.{nesting, within, too_many, closes, most_parentheses, is_left_paren, is_right_paren}
use Rattle.pp_macros.specs.Held.{HoldsOrdinary}
use Rattle.pp_macros.specs.inner.Reading.{AllReadOrdinary}
use Rattle.pp_macros.specs.inner.Reader.{Reader, IsReadOnto, ReadsFlat, read_more, hidden_of, nests}
use Rattle.pp_macros.specs.Item.{PlacedStep, no_memory}
use Rattle.pp_macros.specs.declared.step.PlacedExit.TheVariants.{Error, Finished}
use Rattle.pp_macros.specs.inner.Expander.{Expander, TakesFlat, none_taken, taken_more, now, TakesOnto, TakesRun, place_after}
use Rattle.pp_macros.specs.inner.Left.{regions}
use Rattle.pp_macros.specs.inner.Reach.{total}
use Rattle.pp_macros.proofs.taking.ExpanderLemmas.{idle, idle_steps, next_falls, Gathering, gathers_more}

-- the place of the last of the tokens
pub place_put : (paren : Place) (tokens more : List Read) (read : Read) → more ≡ tokens ++ read ∷ [] → place_after paren more ≡ place_of read
place_put paren tokens more read is = ap (place_after paren) is ∙ go paren tokens
  where
    go : (paren : Place) (tokens : List Read) → place_after paren (tokens ++ read ∷ []) ≡ place_of read
    go paren [] = refl
    go paren (first ∷ rest) = go (place_of first) rest

pub place_last : (paren : Place) (tokens : List Read) (read : Read) → Some read ≡ slice_get tokens (length tokens - 1)
    → place_after paren tokens ≡ place_of read
place_last paren tokens read found =
    let within : length tokens - 1 < length tokens = slice_get_within tokens (length tokens - 1) read (sym found) in
    let last : get_or tokens (length tokens - 1) read ≡ read = get_or_from_slice_get tokens (length tokens - 1) read read (sym found) in
    place_put paren (take (length tokens - 1) tokens) tokens (get_or tokens (length tokens - 1) read) (with_last tokens read (omega (arith, within)))
    ∙ ap (λ (r : Read). place_of r) last

-- a token that is no parenthesis leaves the depth as it is
nests_within : (k : ℕ) (value : TokenValue) → nests value ≡ false → nesting k value ≡ within k
nests_within k value apart = go (is_left_paren value) (is_right_paren value) apart
  where
    go : (left right : Bool) → (left || right) ≡ false
        → (if left then (if nat_lt k most_parentheses then within (k + 1) else too_many)
        else if right then (if k == 0 then closes else within (k - 1)) else within k) ≡ within k
    go true right e = cc
    go false true e = cc
    go false false e = refl

-- one token that is taken
pub run_now : (m n : Expander) (r s : Reader) (tokens more : List Read) (step : PlacedStep (Unit {0})) → TakesOnto m r tokens step n s more
    → (step ≡ Err Finished → more ≡ tokens) → TakesRun m r tokens step n s more
run_now m n r s tokens more step onto kept =
    record { between = r; some = tokens; flat = none_taken r tokens refl refl; last = onto; kept = kept }

-- one that is taken after others
pub run_after : (m n : Expander) (r between s : Reader) (tokens some more : List Read) (step : PlacedStep (Unit {0}))
    → TakesFlat m r tokens between some → TakesOnto m between some step n s more → (step ≡ Err Finished → more ≡ some)
    → TakesRun m r tokens step n s more
run_after m n r between s tokens some more step flat onto kept =
    record { between = between; some = some; flat = flat; last = onto; kept = kept }

-- memory ran out
pub run_refused : (m n : Expander) (r s : Reader) (tokens more : List Read) → TakesRun m r tokens (Err (Error no_memory)) n s more
run_refused m n r s tokens more =
    record { between = r; some = tokens; flat = none_taken r tokens refl refl; last = λ reported. cc; kept = λ e. cc }

-- one more token that is no parenthesis
pub flat_more : (r between s : Reader) (tokens some more : List Read) (ends : Bool) → ReadsFlat r tokens between some
    → (onto : IsReadOnto between some s more) → ends ≡ nests onto.read.token.value → ends ≡ false → ReadsFlat r tokens s more
flat_more r between s tokens some more ends flat onto tells apart = read_more between s some more flat onto (sym tells ∙ apart)

-- a token that is read lowers what is left
pub read_falls : (r s : Reader) (tokens more : List Read) → IsReadOnto r tokens s more → total (regions idle s) < total (regions idle r)
read_falls r s tokens more onto =
    let taken : Read = painted_among (hidden_of s) onto.read in
    next_falls idle idle r s taken (now (Ok taken) idle idle r s (idle_steps idle r s (Ok onto.read) refl onto.reads (rw onto.apart refl)) refl)

-- the tokens that end at one that is taken
pub flat_run : (m : Expander) (r between s : Reader) (tokens some more : List Read) → TakesFlat m r tokens between some → s ≡ between → more ≡ some
    → TakesFlat m r tokens s more
flat_run m r between s tokens some more flat same is = rw (same, is) flat

-- tokens that are taken in a row raise nothing that is left
pub flat_falls : (m : Expander) (r : Reader) (tokens : List Read) (s : Reader) (more : List Read) → TakesFlat m r tokens s more → total (regions m s) ≤ total (regions m r)
flat_falls m r tokens s more (none_taken s1 more1 same is) = omega (arith, ap (λ (t : Reader). total (regions m t)) same)
flat_falls m r tokens s more (taken_more between s1 some more1 flat onto apart) =
    let before = flat_falls m r tokens between some flat in
    let last = next_falls m m between s onto.read onto.takes in
    omega (arith, before, last)

-- they hold ordinary tokens
pub flat_holds : (m : Expander) (r : Reader) (tokens : List Read) (s : Reader) (more : List Read) → TakesFlat m r tokens s more → AllReadOrdinary tokens → AllReadOrdinary more
flat_holds m r tokens s more (none_taken s1 more1 same is) all = rw is all
flat_holds m r tokens s more (taken_more between s1 some more1 flat onto apart) all =
    rw onto.is (All-push (λ (read : Read). HoldsOrdinary read.token.value) _ _ (flat_holds m r tokens between some flat all) onto.holds)

-- how a search goes on from here is how it goes on after them
pub flat_gathers : (paren : Place) (m : Expander) (r : Reader) (tokens : List Read) (k : ℕ) (n : Expander) (s t : Reader) (some : List Read)
    → Gathering paren m r tokens k (place_after paren tokens) n s → TakesFlat n s tokens t some
    → Gathering paren m r some k (place_after paren some) n t
flat_gathers paren m r tokens k n s t some so_far (none_taken t1 some1 same is) = rw (same, is) so_far
flat_gathers paren m r tokens k n s t some so_far (taken_more between t1 mid some1 flat onto apart) =
    subst (λ (place : Place). Gathering paren m r some k place n t) (sym (place_put paren mid some onto.read onto.is))
    (gathers_more paren m r mid k (place_after paren mid) n between (flat_gathers paren m r tokens k n s between mid so_far flat) n t
    onto.read k some onto.takes (nests_within k onto.read.token.value apart) onto.is)

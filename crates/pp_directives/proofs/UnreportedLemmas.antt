-- What reading does to the errors of the lexer that were not reported yet.
use Rattle.std.proofs.Common.{◌≡◌, ◌∙◌, Bool, true, false, List, [], ◌∷◌, ◌++◌, map, refl, sym, ap, subst, append_assoc, Option, Some, None, Result, Ok, Err}
use Rattle.pp_lexer.specs.Items.{Item, items_by, places_by}
use Rattle.pp_lexer.specs.declared.rules.Rules.{Rules}
use Rattle.pp_lexer.specs.ItemLaws.{StandAt}
use Rattle.pp_lexer.specs.Lexed.{Seen, seen, after_first_item, places_after_first}
use Rattle.pp_lexer.specs.declared.lexer.char_iterator.Spot.{Spot}
use Rattle.pp_lexer.specs.declared.token.Location.{Location}
use Rattle.pp_lexer.proofs.items.ItemPlacesLemmas.{places_of_items}
use Rattle.pp_macros.specs.Item.{Fault}
use Rattle.pp_macros.specs.inner.SourceLexed.{HavePlaces}
use Rattle.pp_macros.specs.inner.Unreported.{Unreported, with_read, IsMet, ReportsNone, Reports}
use Rattle.pp_macros.specs.LexerErrors.{ErrorAt}
use Rattle.pp_macros.specs.declared.halt.Halt.{Halt}
use Rattle.pp_macros.specs.declared.halt.Halt.TheVariants as halt

-- the items of a text have places
items_have_places : (items : List Item) (places : List Location) → StandAt items places → HavePlaces (map seen items) places
items_have_places [] [] h = tt
items_have_places [] (place ∷ places) h = absurd h
items_have_places (i ∷ items) [] h = absurd h
items_have_places (i ∷ items) (place ∷ places) h = items_have_places items places h.1

pub start_has_places : (rules : Rules) (ss : List Spot) → HavePlaces (map seen (items_by rules ss)) (places_by rules ss)
start_has_places rules ss = items_have_places (items_by rules ss) (places_by rules ss) (places_of_items rules ss)

-- and those after the first have
pub places_after : (rest : List Seen) (places : List Location) → HavePlaces rest places → HavePlaces (after_first_item rest) (places_after_first places)
places_after [] [] h = tt
places_after [] (place ∷ places) h = absurd h
places_after (s ∷ rest) [] h = absurd h
places_after (s ∷ rest) (place ∷ places) h = h

-- where no error is read, no error is unreported
pub nothing_met : (fault : Fault) (old new : Unreported) → new ≡ old → IsMet fault old new
nothing_met fault old new same none = rw (same, none) refl

-- a result after something that read no error
pub reports_after : (passes : Bool) {A : Type 0} (result : Result A Halt) (old mid new : Unreported) → mid ≡ old → Reports passes result mid new
    → Reports passes result old new
reports_after passes result old mid new same = subst (λ (u : Unreported). Reports passes result u new) same

-- where no error is read, none is reported
pub same_none : (passes : Bool) (old new : Unreported) → new ≡ old → ReportsNone passes old new
same_none false old new same = same
same_none true old new same = λ none. (ap (λ (u : Unreported). u.read) same ∙ none, ([], ap (λ (u : Unreported). u.later) (sym same)))

-- nothing is reported, and then nothing more
pub none_then : (passes : Bool) (old mid new : Unreported) → ReportsNone passes old mid → ReportsNone passes mid new → ReportsNone passes old new
none_then false old mid new h k = k ∙ h
none_then true old mid new h k = λ none.
    let first = h none in
    let later = k first.0 in
    let before = first.1 in
    let after = later.1 in
    (later.0, (before.0 ++ after.0, before.1 ∙ ap (λ (errors : List ErrorAt). before.0 ++ errors) after.1 ∙ sym (append_assoc before.0 after.0 new.later)))

passed_read : (fault : Fault) (old : Unreported) (later : List ErrorAt) (read : Option Location) → old.later ≡ with_read fault read later
    → (passed : List ErrorAt) × (old.later ≡ passed ++ later)
passed_read fault old later None e = ([], e)
passed_read fault old later (Some place) e = (record { item = fault; place = place } ∷ [], e)

-- an error that is met is passed
pub met_none : (fault : Fault) (old mid new : Unreported) → IsMet fault old mid → new ≡ record mid { read = None } → ReportsNone true old new
met_none fault old mid new met same = λ none. rw same (refl, passed_read fault old mid.later mid.read (met none))

-- where errors are reported, they are too where some are passed
pub reports_by : (passes : Bool) {A : Type 0} (result : Result A Halt) (old new : Unreported) → Reports false result old new
    → Reports passes result old new
reports_by passes (Ok value) old new h = same_none passes old new h
reports_by passes (Err (halt.Fault fault)) old new h = h
reports_by passes (Err halt.OutOfMemory) old new h = tt

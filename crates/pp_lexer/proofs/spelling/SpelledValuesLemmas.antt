-- What the lexer gives of a source can be spelled.
use Rattle.std.proofs.Common.{◌≡◌, ℕ, zero, suc, List, [], ◌∷◌, ◌++◌, length, take, drop, Bool, true, false, Ok, if◌then◌else◌, refl, sym, ◌∙◌, ap, subst, arith}
use Rattle.std.specs.Prelude.{All, ⊤}
use Rattle.std.specs.List.{list_all}
use Rattle.std.specs.Str.{IsUtf8, all_scalars}
use Rattle.std.proofs.Math.Utf8.{scalar}
use Rattle.std.proofs.lemmas.Bool.{and_parts, and_from}
use Rattle.std.proofs.lemmas.List.Elements.{All-cons}
use Rattle.std.proofs.lemmas.Simd.{map-map}
use Rattle.pp_lexer.specs.declared.rules.Rules.{Rules}
use Rattle.pp_lexer.specs.declared.lexer.char_iterator.Spot.{Spot}
use Rattle.pp_lexer.specs.declared.lexer.item.TokenValue.TheVariants.{NewLine, Ident}
use Rattle.pp_lexer.specs.Identifiers.{is_identifier}
use Rattle.pp_lexer.specs.Numbers.{is_number}
use Rattle.pp_lexer.specs.NumberValue.{number_outcome}
use Rattle.pp_lexer.specs.Items.{Item, item_at, final_newline, items_by}
use Rattle.pp_lexer.specs.Lexed.{Seen, seen}
use Rattle.pp_lexer.specs.Punctuators.{punctuation_value, punctuation_outcome}
use Rattle.pp_lexer.specs.Reading.{letters}
use Rattle.pp_lexer.specs.Respelling.{IsSpelled, item_value, read_values_by}
use Rattle.pp_lexer.specs.Segments.{Kind, blank, comment, item, Segment, kind_of, taken_by, segment_at, segments_within, segments}
use Rattle.pp_lexer.specs.Spots.{spots_of}
use Rattle.pp_lexer.specs.Words.{is_newline_word, word_outcome, word_at}
use Rattle.pp_lexer.proofs.characters.CharactersLemmas.{source_scalar}
use Rattle.pp_lexer.proofs.spelling.NumberSpelledLemmas.{number_spelled}
use Rattle.pp_lexer.proofs.items.ItemsLemmas.{items_from, items_at_start}
use Rattle.pp_lexer.proofs.spelling.RespellingLemmas.{letters-drop, values_in}
use Rattle.pp_lexer.proofs.spelling.SpelledTextLemmas.{scalars_all}

punctuation_spelled : (rules : Rules) (n : ℕ) (w : List ℕ) → IsSpelled rules (punctuation_outcome rules n (punctuation_value w)).value
punctuation_spelled rules n w = grind arith

word_spelled : (rules : Rules) (w after : List ℕ) → all_scalars w ≡ true → IsSpelled rules (word_outcome rules w after).value
word_spelled rules w after h = by (is_newline_word w) (is_identifier w) (is_number w) refl
  where
    by : (line name number : Bool) → is_identifier w ≡ name → IsSpelled rules (
        if line then record { value = Ok NewLine; taken = 1 }
        else if name then record { value = Ok (Ident w); taken = length w }
        else if number then number_outcome rules w after
        else punctuation_outcome rules (length w) (punctuation_value w)
        ).value
    by true name number e = tt
    by false true number e = (e, h)
    by false false true e = number_spelled rules w after
    by false false false e = punctuation_spelled rules (length w) w

take_scalar : (n : ℕ) (w : List ℕ) → list_all scalar w ≡ true → list_all scalar (take n w) ≡ true
take_scalar zero w h = refl
take_scalar (suc n) [] h = refl
take_scalar (suc n) (c ∷ w) h = let b = and_parts (scalar c) (list_all scalar w) h in and_from (scalar c) (list_all scalar (take n w)) b.0 (take_scalar n w b.1)

drop_scalar : (n : ℕ) (w : List ℕ) → list_all scalar w ≡ true → list_all scalar (drop n w) ≡ true
drop_scalar zero w h = h
drop_scalar (suc n) [] h = refl
drop_scalar (suc n) (c ∷ w) h = drop_scalar n w (and_parts (scalar c) (list_all scalar w) h).1

-- what stands at a place of such characters
place_spelled : (rules : Rules) (cs : List ℕ) → list_all scalar cs ≡ true → IsSpelled rules (word_at rules cs).value
unfolding word_at
place_spelled rules cs h = grind (arith, word_spelled, scalars_all, take_scalar)

-- Items

abbrev KindIsSpelled : (rules : Rules) → Kind → Type 0
KindIsSpelled rules blank = ⊤
KindIsSpelled rules comment = ⊤
KindIsSpelled rules (item r) = IsSpelled rules r

kind_spelled : (rules : Rules) (s : Spot) (ss : List Spot) → list_all scalar (letters (s ∷ ss)) ≡ true → KindIsSpelled rules (kind_of rules s ss)
kind_spelled rules s ss h = grind (arith, place_spelled)

item_spelled : (rules : Rules) (before : List Segment) (g : Segment) (k : Kind) (is : List Item) → KindIsSpelled rules k
    → All (IsSpelled rules) (values_in is)
    → All (IsSpelled rules) (values_in (item_at before g k ++ is))
item_spelled rules before g k is h e = grind arith

newline_spelled : (rules : Rules) (before : List Segment) → All (IsSpelled rules) (values_in (final_newline before))
newline_spelled rules before = grind (arith, All-cons)

segments_spelled : (rules : Rules) (n : ℕ) (before : List Segment) (ss : List Spot) → list_all scalar (letters ss) ≡ true
    → All (IsSpelled rules) (values_in (items_from before (segments_within rules n ss)))
unfolding items_from
segments_spelled rules zero before ss h = newline_spelled rules before
segments_spelled rules (suc n) before [] h = newline_spelled rules before
segments_spelled rules (suc n) before (s ∷ ss) h =
    let rest : List Spot = drop (taken_by rules s ss) (s ∷ ss) in
    let still : list_all scalar (letters rest) ≡ true = ap (list_all scalar) (letters-drop (taken_by rules s ss) (s ∷ ss))
    ∙ drop_scalar (taken_by rules s ss) (letters (s ∷ ss)) h in
    item_spelled rules before (segment_at rules s ss) (kind_of rules s ss)
    (items_from (segment_at rules s ss ∷ before) (segments_within rules n rest)) (kind_spelled rules s ss h)
    (segments_spelled rules n (segment_at rules s ss ∷ before) rest still)

items_spelled : (rules : Rules) (ss : List Spot) → list_all scalar (letters ss) ≡ true → All (IsSpelled rules) (values_in (items_by rules ss))
unfolding segments
items_spelled rules ss h = subst (λ is. All (IsSpelled rules) (values_in is)) (sym (items_at_start rules ss))
    (segments_spelled rules (length ss) [] ss h)

-- the values of a source's items
pub values_spelled : (rules : Rules) (source : List ℕ) → IsUtf8 source → All (IsSpelled rules) (read_values_by rules source)
values_spelled rules source u =
    subst (All (IsSpelled rules)) (sym (map-map (λ (x : Seen). item_value x.item) seen (items_by rules (spots_of source))))
    (items_spelled rules (spots_of source) (source_scalar source u))

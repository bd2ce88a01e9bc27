-- Live text and directives before a position: of a later position, after a condition, and of a text that stands in another one.
use Rattle.std.proofs.Common.{◌≡◌, ◌∙◌, ℕ, zero, suc, ◌+◌, ◌≤◌, ◌<◌, Bool, true, false, not, ◌&&◌, ◌||◌, cond, List, [], ◌∷◌, ◌++◌, length, take, drop, reverse, refl, sym, ap, arith, Ok, Err, if◌then◌else◌}
use Rattle.std.specs.Prelude.{Result}
use Rattle.std.specs.List.{list_any, take_while}
use Rattle.std.proofs.lemmas.Bool.{ne_eqb, or_left, or_right}
use Rattle.std.proofs.lemmas.List.Sums.{take_while-cons}
use Rattle.std.proofs.Math.Bool.{or_assoc, or_comm, or-false}
use Rattle.std.proofs.Math.Seq.{take-add}
use Rattle.std.proofs.lemmas.List.{length-take, length-take-le, reverse-append, take-append-drop, take-append-le, take-take, drop-append-le}
use Rattle.pp_lexer.specs.Items.{Lexeme}
use Rattle.pp_lexer.specs.Lexed.{Seen}
use Rattle.pp_lexer.specs.declared.lexer.item.Token.{Token as LexerToken}
use Rattle.pp_lexer.specs.declared.token.Token.{Token}
use Rattle.pp_lexer.specs.declared.token.PreprocessorError.TheVariants.{UnexpectedEndOfInput}
use Rattle.pp_model.specs.Places.{Fault}
use Rattle.pp_model.specs.Conversions.{is_newline, is_hash, conversion}
use Rattle.pp_model.specs.Lines.{ends_line}
use Rattle.pp_model.specs.Blocks.{Truths, truth_at, block_lines, blocks_at, is_live}
use Rattle.pp_model.specs.Sights.{sight_of, sight_from, token_sight, is_directive, is_text, is_directive_hash}
use Rattle.pp_model.specs.SourceReader.{has_directive, is_on_directive_line, is_live_text, has_live_text_before}
use Rattle.pp_model.specs.declared.sight.Sight.TheVariants as sight
use Rattle.pp_model.specs.IncludeLaws.{are_whole_lines, inserted_at}
use Rattle.pp_model.proofs.including.BlockLinesLemmas.{lines_alike}
use Rattle.pp_model.proofs.including.AlikeBlocksLemmas.{open_alike, live_alike}
use Rattle.pp_model.proofs.including.LineFrontLemmas.{line_from, sight_front}
use Rattle.pp_model.proofs.including.Insertion.{Fits}
use Rattle.pp_model.proofs.including.InsertLemmas.{take_within, take_behind, drop_within, drop_behind}

or_between : (a b c : Bool) → a || (b || c) ≡ b || (a || c)
or_between a b c = sym (or_assoc a b c) ∙ ap (λ x. x || c) (or_comm a b) ∙ or_assoc b a c

or_later : (a b c : Bool) → a || (b || c) ≡ (a || c) || b
or_later a b c = ap (λ x. a || x) (or_comm b c) ∙ sym (or_assoc a c b)

same_either : {a b c d : Bool} → a ≡ b → c ≡ d → a || c ≡ b || d
same_either {b = b} {c = c} first second = ap (λ x. x || c) first ∙ ap (λ x. b || x) second

-- text that came before a position came before each later one
pub text_grows : (items : List Seen) (truths : Truths) (p j : ℕ) → has_live_text_before items truths p ≡ true
    → has_live_text_before items truths (p + j) ≡ true
text_grows items truths p zero h = let one : p + zero ≡ p = omega arith in rw one h
text_grows items truths p (suc j) h =
    let one : p + suc j ≡ suc (p + j) = omega arith in
    rw one (or_right (is_live_text items truths (p + j)) (has_live_text_before items truths (p + j)) (text_grows items truths p j h))

-- ---- what is seen of an item

-- no directive is seen of a token if nothing comes after it
none_by : (token : LexerToken) (fault : Fault) (newline hash first : Bool) (shown : Result Token Fault)
    → is_directive (if newline then sight.NewLine else if hash then (if first then sight.Fault fault else sight.Hash token.location)
    else sight_from sight.Token shown) ≡ false
none_by token fault true hash first shown = refl
none_by token fault false true true shown = refl
none_by token fault false true false shown = refl
none_by token fault false false first (Ok other) = refl
none_by token fault false false first (Err other) = refl

-- an item is no directive if nothing comes after it
alone_is_none : (s : Seen) → is_directive (sight_of (s ∷ [])) ≡ false
alone_is_none s = go s.item
  where
    go : (item : Lexeme) → is_directive (sight_from (λ token. token_sight token []) item) ≡ false
    go (Err fault) = refl
    go (Ok token) = none_by token (UnexpectedEndOfInput, token.location) (is_newline token.value) (is_hash token.value) token.start_of_line (conversion token)

-- a directive stays one with more items after it
directive_stays : (s : Seen) (xs ys : List Seen) → is_directive (sight_of (s ∷ xs)) ≡ true → is_directive (sight_of (s ∷ (xs ++ ys))) ≡ true
directive_stays s [] ys h = let none = alone_is_none s in cc
directive_stays s (x ∷ xs) ys h = h

either_stays : (a b c d : Bool) → (a ≡ true → c ≡ true) → (b ≡ true → d ≡ true) → a || b ≡ true → c || d ≡ true
either_stays true b c d first second h = or_left c d (first refl)
either_stays false b c d first second h = or_right c d (second h)

-- a directive among items is one among them and others
directive_among : (xs ys : List Seen) → has_directive xs ≡ true → has_directive (xs ++ ys) ≡ true
directive_among [] ys h = cc
directive_among (s ∷ xs) ys h =
    either_stays (is_directive (sight_of (s ∷ xs))) (has_directive xs) (is_directive (sight_of (s ∷ (xs ++ ys)))) (has_directive (xs ++ ys))
    (directive_stays s xs ys) (directive_among xs ys) h

-- a directive before a position is one before each later one
pub directive_grows : (items : List Seen) (p j : ℕ) → has_directive (take p items) ≡ true → has_directive (take (p + j) items) ≡ true
directive_grows items p j h = rw (take-add p j items) (directive_among (take p items) (take j (drop p items)) h)

-- ---- a condition that is read

-- the same position twice, which comes before another one
abbrev Before : ℕ → ℕ → ℕ → Type 0
Before p position other = (position ≡ other) × (position < p)

-- Whether a position is live depends on the conditions at those before it.
pub live_by_earlier : (items : List Seen) (truths known : Truths) (p : ℕ) → ((i : ℕ) → i < p → truth_at truths i ≡ truth_at known i)
    → is_live items truths p ≡ is_live items known p
live_by_earlier items truths known p read =
    live_alike (Before p) truths known (λ position other same. read position same.1 ∙ ap (truth_at known) same.0)
    (blocks_at items p) (blocks_at items p) (open_alike (Before p) (block_lines 0 (take p items)) (block_lines 0 (take p items)) (lines_alike (Before p) 0 0 (take p items) within))
  where
    within : (i : ℕ) → i < length (take p items) → Before p (0 + i) (0 + i)
    within i h = let shorter = length-take p items in (refl, omega arith)

module _ (items : List Seen) (truths : Truths) (p : ℕ) (holds : Bool) where
  -- a condition says nothing of another position
  other_truth : (i : ℕ) → i < p → truth_at (record { position = p; holds = holds } ∷ truths) i ≡ truth_at truths i
  other_truth i h = rw (ne_eqb p i (λ same. omega arith)) refl

  -- a condition changes nothing of what is live up to it,
  pub live_decided : (p' : ℕ) → p' ≤ p → is_live items (record { position = p; holds = holds } ∷ truths) p' ≡ is_live items truths p'
  live_decided p' h = live_by_earlier items (record { position = p; holds = holds } ∷ truths) truths p' (λ i k. other_truth i (omega arith))

  text_decided_up_to : (p' : ℕ) → p' ≤ p
      → has_live_text_before items (record { position = p; holds = holds } ∷ truths) p' ≡ has_live_text_before items truths p'
  text_decided_up_to zero h = refl
  text_decided_up_to (suc p') h = rw (live_decided p' (omega (arith, h)), text_decided_up_to p' (omega (arith, h))) refl

  -- nor of what text came before it
  pub text_decided : has_live_text_before items (record { position = p; holds = holds } ∷ truths) p ≡ has_live_text_before items truths p
  text_decided = text_decided_up_to p (omega arith)

-- ---- whole lines

tail_whole : (s : Seen) (rest : List Seen) → are_whole_lines (s ∷ rest) ≡ true → are_whole_lines rest ≡ true
tail_whole s [] whole = refl
tail_whole s (t ∷ rest) whole = whole

-- what is in front of whole lines is not seen by more items after them
sight_whole : (s : Seen) (rest more : List Seen) → are_whole_lines (s ∷ rest) ≡ true → sight_of (s ∷ (rest ++ more)) ≡ sight_of (s ∷ rest)
sight_whole s rest more whole = sight_front (s ∷ rest) more (line_from (s ∷ rest) 0 whole (omega arith))

-- a directive is among whole lines, or among the items after them
directive_append : (lines more : List Seen) → are_whole_lines lines ≡ true → has_directive (lines ++ more) ≡ has_directive lines || has_directive more
directive_append [] more whole = refl
directive_append (s ∷ rest) more whole =
    rw (sight_whole s rest more whole, directive_append rest more (tail_whole s rest whole))
    (sym (or_assoc (is_directive (sight_of (s ∷ rest))) (has_directive rest) (has_directive more)))

-- the items at the end of some that are on one line, the nearest first
abbrev on_line : List Seen → List Seen
on_line items = take_while (λ s. not (ends_line s.item)) (reverse items)

-- some items, the last of which ends a line
record EndLine (items : List Seen) : Type 0 where
  front : List Seen
  last : Seen
  split : items ≡ front ++ last ∷ []
  ends : ends_line last.item ≡ true

whole_end : (s : Seen) (rest : List Seen) → are_whole_lines (s ∷ rest) ≡ true → EndLine (s ∷ rest)
whole_end s [] whole = record { front = []; last = s; split = refl; ends = whole }
whole_end s (t ∷ rest) whole =
    let later = whole_end t rest whole in
    record { front = s ∷ later.front; last = later.last; split = ap (λ items. s ∷ items) later.split; ends = later.ends }

-- no item is on the line that begins after whole lines
none_on_line : (lines : List Seen) → are_whole_lines lines ≡ true → on_line lines ≡ []
none_on_line [] whole = refl
none_on_line (s ∷ rest) whole =
    let end = whole_end s rest whole in
    ap on_line end.split
    ∙ ap (take_while (λ s. not (ends_line s.item))) (reverse-append end.front (end.last ∷ []))
    ∙ take_while-cons (λ s. not (ends_line s.item)) end.last (reverse end.front)
    ∙ ap (λ ends. cond (not ends) (end.last ∷ on_line end.front) []) end.ends

while_append : (test : Seen → Bool) (items more : List Seen) → take_while test more ≡ [] → take_while test (items ++ more) ≡ take_while test items
while_append test [] more none = none
while_append test (s ∷ items) more none =
    take_while-cons test s (items ++ more) ∙ ap (λ rest. cond (test s) (s ∷ rest) []) (while_append test items more none)
    ∙ sym (take_while-cons test s items)

-- whole lines are not on the line after them
on_line_append : (lines more : List Seen) → are_whole_lines lines ≡ true → on_line (lines ++ more) ≡ on_line more
on_line_append lines more whole =
    ap (take_while (λ s. not (ends_line s.item))) (reverse-append lines more)
    ∙ while_append (λ s. not (ends_line s.item)) (reverse more) (reverse lines) (none_on_line lines whole)

-- a `#` of a directive is on the line at the end of these items
abbrev holds_hash : List Seen → Bool
holds_hash items = list_any (λ s. is_directive_hash s.item) (on_line items)

-- none is from whole lines before them
hash_append : (lines more : List Seen) → are_whole_lines lines ≡ true → holds_hash (lines ++ more) ≡ holds_hash more
hash_append lines more whole = ap (list_any (λ s. is_directive_hash s.item)) (on_line_append lines more whole)

-- a token is of the live text in two sources alike
same_text : (items among : List Seen) (truths known : Truths) (p r : ℕ) → sight_of (drop p items) ≡ sight_of (drop r among)
    → is_on_directive_line items p ≡ is_on_directive_line among r → is_live items truths p ≡ is_live among known r
    → is_live_text items truths p ≡ is_live_text among known r
same_text items among truths known p r shown line live =
    ap (λ seen. is_text seen && not (is_on_directive_line items p) && is_live items truths p) shown
    ∙ ap (λ on. is_text (sight_of (drop r among)) && not on && is_live items truths p) line
    ∙ ap (λ alive. is_text (sight_of (drop r among)) && not (is_on_directive_line among r) && alive) live

-- ---- a text that stands in another one

module _ (M X : List Seen) (q : ℕ) (fits : Fits M X q) where
  -- Up to a place in it a directive is in the front of the text around it, or in its own.
  pub directive_within : (i : ℕ) → i ≤ length X → has_directive (take (q + i) (inserted_at q X M)) ≡ has_directive (take q M) || has_directive (take i X)
  directive_within i h = ap has_directive (take_within M X q i fits.within h) ∙ directive_append (take q M) (take i X) fits.front_lines

  directive_around : (j : ℕ) → has_directive (take (q + j) M) ≡ has_directive (take q M) || has_directive (take j (drop q M))
  directive_around j = ap has_directive (take-add q j M) ∙ directive_append (take q M) (take j (drop q M)) fits.front_lines

  -- Up to a place behind it a directive is in the text around it, or in itself.
  pub directive_behind : (j : ℕ) → has_directive (take (q + (length X + j)) (inserted_at q X M)) ≡ has_directive (take (q + j) M) || has_directive X
  directive_behind j =
      ap has_directive (take_behind M X q j fits.within)
      ∙ directive_append (take q M) (X ++ take j (drop q M)) fits.front_lines
      ∙ ap (λ later. has_directive (take q M) || later) (directive_append X (take j (drop q M)) fits.whole_lines)
      ∙ or_later (has_directive (take q M)) (has_directive X) (has_directive (take j (drop q M)))
      ∙ ap (λ around. around || has_directive X) (sym (directive_around j))

  sight_before : (p : ℕ) → p < q → sight_of (drop p (inserted_at q X M)) ≡ sight_of (drop p M)
  sight_before p h =
      let length_front = length-take-le q M fits.within in
      let ended = line_from (take q M) p fits.front_lines (omega arith) in
      ap sight_of (drop-append-le p (take q M) (X ++ drop q M) (omega arith))
      ∙ sight_front (drop p (take q M)) (X ++ drop q M) ended
      ∙ sym (sight_front (drop p (take q M)) (drop q M) ended)
      ∙ ap sight_of (sym (drop-append-le p (take q M) (drop q M) (omega arith)))
      ∙ ap (λ items. sight_of (drop p items)) (take-append-drop q M)

  sight_within : (i : ℕ) → i < length X → sight_of (drop (q + i) (inserted_at q X M)) ≡ sight_of (drop i X)
  sight_within i h =
      ap sight_of (drop_within M X q i fits.within (omega arith)) ∙ sight_front (drop i X) (drop q M) (line_from X i fits.whole_lines h)

  line_front : (p : ℕ) → p ≤ q → is_on_directive_line (inserted_at q X M) p ≡ is_on_directive_line M p
  line_front p h =
      let length_front = length-take-le q M fits.within in
      ap holds_hash (take-append-le p (take q M) (X ++ drop q M) (omega arith) ∙ take-take p q M h)

  line_within : (i : ℕ) → i ≤ length X → is_on_directive_line (inserted_at q X M) (q + i) ≡ is_on_directive_line X i
  line_within i h =
      ap holds_hash (take_within M X q i fits.within h) ∙ hash_append (take q M) (take i X) fits.front_lines

  line_behind : (j : ℕ) → is_on_directive_line (inserted_at q X M) (q + (length X + j)) ≡ is_on_directive_line M (q + j)
  line_behind j =
      ap holds_hash (take_behind M X q j fits.within)
      ∙ hash_append (take q M) (X ++ take j (drop q M)) fits.front_lines
      ∙ hash_append X (take j (drop q M)) fits.whole_lines
      ∙ sym (hash_append (take q M) (take j (drop q M)) fits.front_lines)
      ∙ ap holds_hash (sym (take-add q j M))

  module _ (outer inner whole : Truths)
      (live_front : (p : ℕ) → p ≤ q → is_live (inserted_at q X M) whole p ≡ is_live M outer p)
      (live_within : (i : ℕ) → i ≤ length X → is_live (inserted_at q X M) whole (q + i) ≡ is_live M outer q && is_live X inner i)
      (live_behind : (j : ℕ) → is_live (inserted_at q X M) whole (q + (length X + j)) ≡ is_live M outer (q + j))
      (outer_live : is_live M outer q ≡ true) where
    text_front : (p : ℕ) → p ≤ q → has_live_text_before (inserted_at q X M) whole p ≡ has_live_text_before M outer p
    text_front zero h = refl
    text_front (suc p) h =
        let below : p ≤ q = omega (arith, h) in
        same_either (same_text (inserted_at q X M) M whole outer p p (sight_before p h) (line_front p below) (live_front p below)) (text_front p below)

    -- Up to a place in it live text is before it, or in itself.
    pub text_within : (i : ℕ) → i ≤ length X
        → has_live_text_before (inserted_at q X M) whole (q + i) ≡ has_live_text_before M outer q || has_live_text_before X inner i
    text_within zero h =
        let start : q + zero ≡ q = omega arith in
        ap (has_live_text_before (inserted_at q X M) whole) start ∙ text_front q (omega arith) ∙ sym (or-false (has_live_text_before M outer q))
    text_within (suc i) h =
        let one : q + suc i ≡ suc (q + i) = omega arith in
        let below : i ≤ length X = omega (arith, h) in
        let live = live_within i below ∙ ap (λ around. around && is_live X inner i) outer_live in
        ap (has_live_text_before (inserted_at q X M) whole) one
        ∙ same_either (same_text (inserted_at q X M) X whole inner (q + i) i (sight_within i h) (line_within i below) live) (text_within i below)
        ∙ or_between (is_live_text X inner i) (has_live_text_before M outer q) (has_live_text_before X inner i)

    -- Up to a place behind it live text is in the text around it, or in itself.
    pub text_behind : (j : ℕ)
        → has_live_text_before (inserted_at q X M) whole (q + (length X + j)) ≡ has_live_text_before M outer (q + j) || has_live_text_before X inner (length X)
    text_behind zero =
        let all : q + (length X + zero) ≡ q + length X = omega arith in
        let start : q + zero ≡ q = omega arith in
        ap (has_live_text_before (inserted_at q X M) whole) all ∙ text_within (length X) (omega arith)
        ∙ ap (λ p. has_live_text_before M outer p || has_live_text_before X inner (length X)) (sym start)
    text_behind (suc j) =
        let one : q + (length X + suc j) ≡ suc (q + (length X + j)) = omega arith in
        let more : q + suc j ≡ suc (q + j) = omega arith in
        let shown = ap sight_of (drop_behind M X q j fits.within) in
        ap (has_live_text_before (inserted_at q X M) whole) one
        ∙ same_either (same_text (inserted_at q X M) M whole outer (q + (length X + j)) (q + j) shown (line_behind j) (live_behind j)) (text_behind j)
        ∙ sym (or_assoc (is_live_text M outer (q + j)) (has_live_text_before M outer (q + j)) (has_live_text_before X inner (length X)))
        ∙ ap (λ p. has_live_text_before M outer p || has_live_text_before X inner (length X)) (sym more)

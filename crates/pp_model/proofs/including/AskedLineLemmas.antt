-- The line of an `#include` directive: behind it the text is as live as before it, and whole lines come before that place.
use Rattle.std.proofs.Common.{◌≡◌, ◌∙◌, ℕ, zero, suc, ◌+◌, ◌≤◌, Bool, true, false, ◌||◌, if◌then◌else◌, List, [], ◌∷◌, ◌++◌, take, drop, length, refl, ap, subst, sym, arith, Option, Some, None, append-nil}
use Rattle.std.specs.Prelude.{Result, Ok, Err}
use Rattle.std.specs.List.{list_all}
use Rattle.std.proofs.lemmas.List.{length-drop, drop-drop, drop-take, take-take}
use Rattle.pp_lexer.specs.Items.{Lexeme}
use Rattle.pp_lexer.specs.Lexed.{Seen}
use Rattle.pp_lexer.specs.declared.lexer.item.Token.{Token as LexerToken}
use Rattle.pp_lexer.specs.declared.lexer.item.TokenValue.{TokenValue as LexerTokenValue}
use Rattle.pp_lexer.specs.declared.lexer.item.TokenValue.TheVariants.{NewLine}
use Rattle.pp_lexer.specs.declared.token.Location.{Location}
use Rattle.pp_lexer.specs.declared.token.Token.{Token}
use Rattle.pp_model.specs.Blocks.{Truths, part_of, block_lines, open_blocks, is_last_chosen, is_live}
use Rattle.pp_model.specs.Conversions.{is_newline, is_hash, identifier_of, conversion, refused_token}
use Rattle.pp_model.specs.IncludeLaws.{are_whole_lines}
use Rattle.pp_model.specs.Lines.{ends_line, line_length, first_token}
use Rattle.pp_model.specs.Names.{Name}
use Rattle.pp_model.specs.Places.{Fault}
use Rattle.pp_model.specs.Sights.{sight_of, sight_from, named_directive, token_sight}
use Rattle.pp_model.specs.declared.directive.Directive.{Directive}
use Rattle.pp_model.specs.declared.sight.Sight.{Sight}
use Rattle.pp_model.specs.declared.sight.Sight.TheVariants as sight
use Rattle.pp_model.proofs.including.BlockLinesLemmas.{same_sight, lines_at_directive}
use Rattle.pp_model.proofs.including.LineFrontLemmas.{has_line, HasLine, stays_before, line_from}
use Rattle.pp_model.proofs.including.LinePartFrontLemmas.{line_length_within}
use Rattle.pp_model.proofs.including.WholeLinesLemmas.{end_line}
use Rattle.pp_model.proofs.including.LineStartLemmas.{begin_lines, begin_lines_after, line_quiet}

-- ---- whole lines up to a line's end

-- there are items, and the last of them ends a line
abbrev ended : List Seen → Bool
ended items = end_line false items

-- one more item in front
ended_more : (s : Seen) (items : List Seen) → ended items ≡ true → ended (s ∷ items) ≡ true
ended_more s [] h = cc
ended_more s (t ∷ items) h = h

-- then these are whole lines
ended_whole : (items : List Seen) → ended items ≡ true → are_whole_lines items ≡ true
ended_whole [] h = refl
ended_whole (s ∷ items) h = h

-- a line is ended by its end
line_ended : (rest : List Seen) → HasLine rest → ended (take (line_length rest) rest) ≡ true
line_ended [] h = cc
line_ended (s ∷ rest) h = by (ends_line s.item) refl (line_ended rest) h
  where
    by : (ends : Bool) → ends_line s.item ≡ ends → (HasLine rest → ended (take (line_length rest) rest) ≡ true) → ends || has_line rest ≡ true
        → ended (take (if ends then 1 else 1 + line_length rest) (s ∷ rest)) ≡ true
    by true is more h = is
    by false is more h =
        let one : 1 + line_length rest ≡ suc (line_length rest) = omega arith in
        rw one (ended_more s (take (line_length rest) rest) (more h))

-- so are the items up to it
ended_at : (n : ℕ) (items : List Seen) → HasLine (drop n items) → ended (take (n + line_length (drop n items)) items) ≡ true
ended_at zero items h =
    let same : 0 + line_length items ≡ line_length items = omega arith in
    rw same (line_ended items h)
ended_at (suc n) [] h = cc
ended_at (suc n) (s ∷ items) h =
    let same : suc n + line_length (drop n items) ≡ suc (n + line_length (drop n items)) = omega arith in
    rw same (ended_more s (take (n + line_length (drop n items)) items) (ended_at n items h))

-- ---- the items of a directive

-- a directive has two items or more, its number sign and its word, which end no line
pub record HasWord (rest : List Seen) : Type 0 where
  pub sign : Seen
  pub word : Seen
  pub after : List Seen
  pub is : rest ≡ sign ∷ word ∷ after
  pub sign_stays : ends_line sign.item ≡ false
  pub word_stays : ends_line word.item ≡ false

-- a name ends no line
name_stays : (value : LexerTokenValue) (name : Name) → identifier_of value ≡ Some name → is_newline value ≡ false
name_stays NewLine name e = cc
name_stays _ name e = refl

-- nor does the word of a directive
token_stays : (token : LexerToken) (found : Option Name) (directive : Directive) (place : Location) → identifier_of token.value ≡ found
    → named_directive token found ≡ sight.Directive directive place → is_newline token.value ≡ false
token_stays token (Some name) directive place is e = name_stays token.value name is
token_stays token None directive place is e = by (is_newline token.value) e
  where
    by : (newline : Bool) → (if newline then sight.Lone else sight.NoWord (refused_token token)) ≡ sight.Directive directive place
        → is_newline token.value ≡ false
    by true e = cc
    by false e = cc

word_stays : (item : Lexeme) (directive : Directive) (place : Location)
    → sight_from (λ word. named_directive word (identifier_of word.value)) item ≡ sight.Directive directive place → ends_line item ≡ false
word_stays (Ok token) directive place e = token_stays token (identifier_of token.value) directive place refl e
word_stays (Err fault) directive place e = cc

-- nor its number sign
signed : (newline hash at_start : Bool) (named : Sight) (sign : Location) (text : Result Token Fault) (directive : Directive) (place : Location)
    → (if newline then sight.NewLine else if hash then (if at_start then named else sight.Hash sign) else sight_from sight.Token text)
    ≡ sight.Directive directive place
    → (newline ≡ false) × (named ≡ sight.Directive directive place)
signed true hash at_start named sign text directive place e = cc
signed false true true named sign text directive place e = (refl, e)
signed false true false named sign text directive place e = cc
signed false false at_start named sign (Ok token) directive place e = cc
signed false false at_start named sign (Err fault) directive place e = cc

sign_stays : (item : Lexeme) (rest : List Seen) (directive : Directive) (place : Location)
    → sight_from (λ token. token_sight token rest) item ≡ sight.Directive directive place
    → (ends_line item ≡ false)
    × (sign : Location)
    × (sight_from (λ word. named_directive word (identifier_of word.value)) (first_token sign rest) ≡ sight.Directive directive place)
sign_stays (Ok token) rest directive place e =
    let there = signed (is_newline token.value) (is_hash token.value) token.start_of_line _ token.location (conversion token) directive place e in
    (there.0, token.location, there.1)
sign_stays (Err fault) rest directive place e = cc

pub directive_has_word : (rest : List Seen) (directive : Directive) (place : Location) → sight_of rest ≡ sight.Directive directive place → HasWord rest
directive_has_word [] directive place e = cc
directive_has_word (s ∷ []) directive place e = let none = (sign_stays s.item [] directive place e).2 in cc
directive_has_word (s ∷ t ∷ after) directive place e =
    let there = sign_stays s.item (t ∷ after) directive place e in
    record {
      sign = s;
      word = t;
      after = after;
      is = refl;
      sign_stays = there.0;
      word_stays = word_stays t.item directive place there.2;
    }

-- ---- behind the line of a directive

-- the directive does nothing to a block
abbrev pub IsPlain : Directive → Type 0
IsPlain directive = part_of directive ≡ None

-- its line has no line of a block
directive_quiet : (position : ℕ) (sign word : Seen) (after : List Seen) (directive : Directive) (place : Location)
    → sight_of (sign ∷ word ∷ after) ≡ sight.Directive directive place → IsPlain directive → ends_line word.item ≡ false
    → begin_lines false (word ∷ after) ≡ true
    → block_lines position (sign ∷ word ∷ take (line_length after) after) ≡ []
directive_quiet position sign word after directive place e plain stays begins =
    rw (same_sight sign word (take (line_length after) after) after, e, plain) (rw (stays, one) at (line_quiet (position + 1) (word ∷ after) begins))
  where
    one : 1 + line_length after ≡ suc (line_length after)
    one = omega arith

module _ (items : List Seen) (n : ℕ) (directive : Directive) (place : Location) (there : sight_of (drop n items) ≡ sight.Directive directive place) where
  -- the place behind its line
  abbrev pub behind_line : ℕ
  behind_line = n + (2 + line_length (drop 2 (drop n items)))

  line : HasWord (drop n items)
  line = directive_has_word (drop n items) directive place there

  size : length items ≡ n + suc (suc (length line.after))
  size = omega (arith, length-drop n items, ap length line.is)

  -- it is in the text
  pub behind_within : behind_line ≤ length items
  behind_within =
      let few : line_length (drop 2 (drop n items)) ≤ length (drop 2 (drop n items)) = line_length_within (drop 2 (drop n items)) in
      omega (arith, few, length-drop 2 (drop n items), ap length line.is, size)

  -- the directive and the rest of its line
  front : drop n (take behind_line items) ≡ line.sign ∷ line.word ∷ take (line_length line.after) line.after
  front =
      drop-take n (2 + line_length (drop 2 (drop n items))) items
      ∙ ap (λ rest. take (2 + line_length (drop 2 rest)) rest) line.is
      ∙ (let two : 2 + line_length line.after ≡ suc (suc (line_length line.after)) = omega arith in rw two refl)

  module _ (whole : are_whole_lines items ≡ true) where
    from_sign : HasLine (drop n items)
    from_sign = line_from items n whole (omega (arith, size))

    -- whole lines come before it
    pub behind_whole : are_whole_lines (take behind_line items) ≡ true
    behind_whole =
        ended_whole (take behind_line items) (rw (sym same) at (ended_at (n + 2) items has_end))
      where
        same : behind_line ≡ n + 2 + line_length (drop (n + 2) items)
        same = ap (λ rest. n + (2 + line_length rest)) (drop-drop 2 n items) ∙ omega arith

        from_word : HasLine (line.sign ∷ line.word ∷ line.after)
        from_word = rw line.is at from_sign

        has_end : HasLine (drop (n + 2) items)
        has_end =
            subst HasLine (sym (ap (drop 2) line.is) ∙ drop-drop 2 n items)
            (stays_before (ends_line line.word.item) (has_line line.after) line.word_stays
            (stays_before (ends_line line.sign.item) (has_line (line.word ∷ line.after)) line.sign_stays from_word))

  module _ (begins : begin_lines true items ≡ true) (plain : IsPlain directive) where
    -- no line of a block is among them
    same_lines : block_lines 0 (take behind_line items) ≡ block_lines 0 (take n items)
    same_lines =
        lines_at_directive n 0 (take behind_line items) directive place seen
        ∙ ap (λ lines. block_lines 0 (take n (take behind_line items)) ++ lines) (ap (block_lines (0 + n)) front ∙ quiet)
        ∙ append-nil (block_lines 0 (take n (take behind_line items)))
        ∙ ap (block_lines 0) (take-take n behind_line items (omega arith))
      where
        seen : sight_of (drop n (take behind_line items)) ≡ sight.Directive directive place
        seen =
            ap sight_of front ∙ same_sight line.sign line.word (take (line_length line.after) line.after) line.after ∙ ap sight_of (sym line.is) ∙ there

        later : begin_lines false (line.word ∷ line.after) ≡ true
        later = rw line.sign_stays at (begin_lines_after n true items line.sign (line.word ∷ line.after) begins line.is)

        quiet : block_lines (0 + n) (line.sign ∷ line.word ∷ take (line_length line.after) line.after) ≡ []
        quiet = directive_quiet (0 + n) line.sign line.word line.after directive place (sym (ap sight_of line.is) ∙ there) plain line.word_stays later

    -- so it is as live behind the line
    pub behind_live : (truths : Truths) → is_live items truths behind_line ≡ is_live items truths n
    behind_live truths = ap (λ lines. list_all (λ block. is_last_chosen truths block.first block.partings) (open_blocks lines)) same_lines

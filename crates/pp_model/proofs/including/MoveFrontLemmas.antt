-- What the table of directives says of an item or a line in front depends on the items up to the line's end alone.
use Rattle.std.proofs.Common.{◌≡◌, ◌∙◌, Bool, true, false, not, if◌then◌else◌, ◌||◌, List, [], ◌∷◌, ◌++◌, refl, ap, ◌+◌, Option, Some, None}
use Rattle.std.specs.Prelude.{Result, Ok, Err}
use Rattle.pp_lexer.specs.Entry.{Entry}
use Rattle.pp_lexer.specs.Items.{Lexeme}
use Rattle.pp_lexer.specs.Lexed.{Seen}
use Rattle.pp_lexer.specs.Preorder.{preorder}
use Rattle.pp_lexer.specs.declared.lexer.item.TokenValue.{TokenValue as LexerTokenValue}
use Rattle.pp_lexer.specs.declared.lexer.item.TokenValue.TheVariants.{NewLine, Ident as LexerIdent}
use Rattle.pp_lexer.specs.declared.rules.Rules.{Rules}
use Rattle.pp_lexer.specs.declared.token.Location.{Location}
use Rattle.pp_lexer.specs.declared.token.PreprocessorError.TheVariants.{UnknownDirective, ElifAfterElse}
use Rattle.pp_lexer.specs.declared.token.Token.{Token}
use Rattle.pp_lexer.specs.declared.token.TokenValue.{TokenValue}
use Rattle.pp_model.specs.Places.{Fault}
use Rattle.pp_model.specs.Conversions.{is_newline, is_hash, identifier_of, conversion}
use Rattle.pp_model.specs.Lines.{ends_line, include_line, line_tokens, ended_line, only_name}
use Rattle.pp_model.specs.Sights.{sight_of, sight_from, named_directive, token_sight}
use Rattle.pp_model.specs.Moves.{BlockFacts, Effect, gives_item, asks, passes, defines, undefines, tests, decides, renumbers, Move, failing, passing, line_move, unread_move, skip_move, item_move, include_move, dead_include_move, version_item, extension_item, pragma_item, elif_move, else_effect, else_move, endif_move, directive_move, move_at}
use Rattle.pp_model.specs.declared.directive.Directive.{Directive}
use Rattle.pp_model.specs.declared.directive.Directive.TheVariants as d
use Rattle.pp_model.specs.declared.sight.Sight.{Sight}
use Rattle.pp_model.specs.declared.sight.Sight.TheVariants as sight
use Rattle.pp_model.proofs.including.LineFrontLemmas.{has_line, HasLine, stays_before, shown_newline}
use Rattle.pp_model.proofs.including.LinePartFrontLemmas.{line_length_front, include_line_front, line_fault_front, line_tokens_front, comments_before_end_front, ended_line_front, only_name_front}
use Rattle.pp_model.proofs.including.DefineFrontLemmas.{defined_on_front, undefined_on_front}

module _ (after more : List Seen) (ended : HasLine after) where
  -- a line with a value or a fault
  line_move_front : {A : Type 0} (longer shorter : Result A Fault) (effect : A → Effect) → longer ≡ shorter
      → line_move longer effect (after ++ more) ≡ line_move shorter effect after
  line_move_front longer shorter effect same = ap (λ line. line_move line effect (after ++ more)) same ∙ by shorter
    where
      by : (line : Result _ Fault) → line_move line effect (after ++ more) ≡ line_move line effect after
      by (Ok value) = ap (λ n. record { effect = effect value; taken = n }) (line_length_front after more ended)
      by (Err fault) = refl

  -- a line that isn't read
  unread_move_front : (rules : Rules) (longer shorter : Effect) → longer ≡ shorter → unread_move rules longer (after ++ more) ≡ unread_move rules shorter after
  unread_move_front rules longer shorter same = rw (same, line_length_front after more ended, line_fault_front after more ended) refl

  -- a line that is skipped
  skip_move_front : (rules : Rules) → skip_move rules (after ++ more) ≡ skip_move rules after
  skip_move_front rules = unread_move_front rules passes passes refl

  -- an item that holds the tokens of its line
  item_move_front : (longer shorter : List Entry → Bool → Bool → TokenValue) (word : Location) → longer ≡ shorter
      → item_move longer word (after ++ more) ≡ item_move shorter word after
  item_move_front longer shorter word same =
      ap (λ value. item_move value word (after ++ more)) same
      ∙ line_move_front (line_tokens (after ++ more)) (line_tokens after) (λ tokens. gives_item (shorter (preorder tokens)) word)
      (line_tokens_front after more ended)

  -- a line with a condition
  decides_front : (word : Location)
      → line_move (line_tokens (after ++ more)) (decides word) (after ++ more) ≡ line_move (line_tokens after) (decides word) after
  decides_front word = line_move_front (line_tokens (after ++ more)) (line_tokens after) (decides word) (line_tokens_front after more ended)

  -- an `#ifdef` or an `#ifndef`
  tests_front : (holds : Bool → Bool) (word : Location)
      → line_move (only_name word (after ++ more)) (tests holds) (after ++ more) ≡ line_move (only_name word after) (tests holds) after
  tests_front holds word = line_move_front (only_name word (after ++ more)) (only_name word after) (tests holds) (only_name_front word after more ended)

  -- an `#include`
  include_move_front : (rules : Rules) (word : Location) → include_move rules word (after ++ more) ≡ include_move rules word after
  include_move_front rules word = by rules.asks_includes
    where
      by : (asked : Bool) → (if asked then unread_move rules (asks (include_line word (after ++ more))) (after ++ more) else failing (UnknownDirective, word))
          ≡ (if asked then unread_move rules (asks (include_line word after)) after else failing (UnknownDirective, word))
      by true = unread_move_front rules _ _ (ap asks (include_line_front word after more ended))
      by false = refl

  -- an `#include` in dead text
  dead_include_move_front : (rules : Rules) → dead_include_move rules (after ++ more) ≡ dead_include_move rules after
  dead_include_move_front rules = ap (λ move. if rules.asks_includes then move else passing 0) (skip_move_front rules)

  -- an `#elif`
  elif_move_front : (rules : Rules) (block : Option BlockFacts) (word : Location)
      → elif_move rules block word (after ++ more) ≡ elif_move rules block word after
  elif_move_front rules None word = refl
  elif_move_front rules (Some block) word = by block.has_else (not block.are_surroundings_live || block.has_taken_branch)
    where
      by : (late skipped : Bool)
          → (if late then failing (ElifAfterElse, word) else if skipped then skip_move rules (after ++ more)
          else line_move (line_tokens (after ++ more)) (decides word) (after ++ more))
          ≡ (if late then failing (ElifAfterElse, word) else if skipped then skip_move rules after else line_move (line_tokens after) (decides word) after)
      by true skipped = refl
      by false true = skip_move_front rules
      by false false = decides_front word

  -- an `#else`
  else_move_front : (block : Option BlockFacts) (word : Location) → else_move block word (after ++ more) ≡ else_move block word after
  else_move_front block word = line_move_front _ _ (λ end. else_effect block word) (ended_line_front word after more ended)

  -- an `#endif`
  endif_move_front : (rules : Rules) (block : Option BlockFacts) (word : Location)
      → endif_move rules block word (after ++ more) ≡ endif_move rules block word after
  endif_move_front rules None word = refl
  endif_move_front rules (Some block) word = by block.are_surroundings_live
    where
      by : (live : Bool)
          → (if live then line_move (ended_line word (after ++ more)) (λ end. passes) (after ++ more) else skip_move rules (after ++ more))
          ≡ (if live then line_move (ended_line word after) (λ end. passes) after else skip_move rules after)
      by true = line_move_front _ _ (λ end. passes) (ended_line_front word after more ended)
      by false = skip_move_front rules

  -- a directive in live text
  live_front : (rules : Rules) (block : Option BlockFacts) (directive : Directive) (word : Location)
      → directive_move rules true block directive word (after ++ more) ≡ directive_move rules true block directive word after
  live_front rules block d.Define word = line_move_front _ _ defines (defined_on_front rules word after more ended)
  live_front rules block d.Undef word = line_move_front _ _ undefines (undefined_on_front rules word after more ended)
  live_front rules block d.If word = decides_front word
  live_front rules block d.Ifdef word = tests_front (λ is. is) word
  live_front rules block d.Ifndef word = tests_front not word
  live_front rules block d.Elif word = elif_move_front rules block word
  live_front rules block d.Else word = else_move_front block word
  live_front rules block d.Endif word = endif_move_front rules block word
  live_front rules block d.Error word = refl
  live_front rules block d.Include word = include_move_front rules word
  live_front rules block d.Line word = line_move_front _ _ (renumbers word) (line_tokens_front after more ended)
  live_front rules block d.Version word = item_move_front _ _ word (ap version_item (comments_before_end_front after more ended))
  live_front rules block d.Extension word = item_move_front extension_item extension_item word refl
  live_front rules block d.Pragma word = item_move_front pragma_item pragma_item word refl
  live_front rules block d.Unknown word = refl

  -- a directive in dead text
  dead_front : (rules : Rules) (block : Option BlockFacts) (directive : Directive) (word : Location)
      → directive_move rules false block directive word (after ++ more) ≡ directive_move rules false block directive word after
  dead_front rules block d.Elif word = elif_move_front rules block word
  dead_front rules block d.Else word = else_move_front block word
  dead_front rules block d.Endif word = endif_move_front rules block word
  dead_front rules block d.Unknown word = refl
  dead_front rules block d.Include word = dead_include_move_front rules
  dead_front rules block _ word = skip_move_front rules

  -- so it is with each directive
  directive_move_front : (rules : Rules) (live : Bool) (block : Option BlockFacts) (directive : Directive) (word : Location)
      → directive_move rules live block directive word (after ++ more) ≡ directive_move rules live block directive word after
  directive_move_front rules true block directive word = live_front rules block directive word
  directive_move_front rules false block directive word = dead_front rules block directive word

-- a `#` with the end of the line behind it is alone on the line
newline_is_no_name : (value : LexerTokenValue) → is_newline value ≡ true → identifier_of value ≡ None
newline_is_no_name NewLine h = refl
newline_is_no_name (LexerIdent name) h = cc
newline_is_no_name _ h = refl

newline_is_lone : (item : Lexeme) → ends_line item ≡ true → sight_from (λ word. named_directive word (identifier_of word.value)) item ≡ sight.Lone
newline_is_lone (Ok token) h = rw (newline_is_no_name token.value h, h) refl
newline_is_lone (Err fault) h = cc

-- so where a directive is seen, neither its `#` nor its word ends the line
shown_directive : (newline hash at_start : Bool) (named : Sight) (place : Location) (text : Result Token Fault) (directive : Directive) (word : Location)
    → (if newline then sight.NewLine else if hash then (if at_start then named else sight.Hash place) else sight_from sight.Token text)
    ≡ sight.Directive directive word
    → (newline ≡ false) × (named ≡ sight.Directive directive word)
shown_directive true hash at_start named place text directive word e = cc
shown_directive false true true named place text directive word e = (refl, e)
shown_directive false true false named place text directive word e = cc
shown_directive false false at_start named place (Ok token) directive word e = cc
shown_directive false false at_start named place (Err fault) directive word e = cc

neither_ends : (item next : Lexeme) (comments : Bool) (rest : List Seen) (directive : Directive) (word : Location)
    → sight_from (λ token. token_sight token (record { item = next; had_comments = comments } ∷ rest)) item ≡ sight.Directive directive word
    → (ends_line item ≡ false) × (ends_line next ≡ false)
neither_ends (Ok token) next comments rest directive word e =
    let both = shown_directive (is_newline token.value) (is_hash token.value) token.start_of_line
    (sight_from (λ found. named_directive found (identifier_of found.value)) next) token.location (conversion token) directive word e in
    (both.0, stays (ends_line next) refl both.1)
  where
    stays : (ends : Bool) → ends_line next ≡ ends
        → sight_from (λ found. named_directive found (identifier_of found.value)) next ≡ sight.Directive directive word → ends ≡ false
    stays true p named = (let alone = newline_is_lone next p in cc)
    stays false p named = refl
neither_ends (Err fault) next comments rest directive word e = cc

-- and the line's end comes after its word
pub after_directive : (s t : Seen) (rest : List Seen) (directive : Directive) (word : Location)
    → sight_of (s ∷ t ∷ rest) ≡ sight.Directive directive word → HasLine (s ∷ t ∷ rest) → HasLine rest
after_directive s t rest directive word e h =
    let both = neither_ends s.item t.item t.had_comments rest directive word e in
    stays_before (ends_line t.item) (has_line rest) both.1 (stays_before (ends_line s.item) (has_line (t ∷ rest)) both.0 h)

-- what stands in front does what its line alone does
pub move_front : (rules : Rules) (live : Bool) (facts : Option BlockFacts) (rest more : List Seen) → HasLine rest
    → move_at rules live facts (sight_of (rest ++ more)) (rest ++ more) ≡ move_at rules live facts (sight_of rest) rest
move_front rules live facts [] more h = cc
move_front rules live facts (s ∷ []) more h = rw (shown_newline s more h, shown_newline s [] h) refl
move_front rules live facts (s ∷ t ∷ rest) more h = by (sight_of (s ∷ t ∷ rest)) refl
  where
    by : (shown : Sight) → sight_of (s ∷ t ∷ rest) ≡ shown
        → move_at rules live facts shown (s ∷ t ∷ (rest ++ more)) ≡ move_at rules live facts shown (s ∷ t ∷ rest)
    by (sight.Directive directive word) e =
        ap (λ (line : Move). record line { taken = 2 + line.taken })
        (directive_move_front rest more (after_directive s t rest directive word e h) rules live facts directive word)
    by _ e = refl

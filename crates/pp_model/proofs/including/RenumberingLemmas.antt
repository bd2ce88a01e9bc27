-- Only a `#line` directive numbers lines anew.
use Rattle.std.proofs.Common.{◌≡◌, ◌∙◌, ℕ, zero, suc, Bool, true, false, not, if◌then◌else◌, ◌&&◌, ◌||◌, List, [], ◌∷◌, drop, refl, sym, ap, Option, Some, None}
use Rattle.std.specs.Prelude.{Result, Ok, Err}
use Rattle.std.specs.Option.{option_map_or}
use Rattle.std.proofs.lemmas.Bool.{or_parts}
use Rattle.pp_lexer.specs.Lexed.{Seen}
use Rattle.pp_lexer.specs.declared.rules.Rules.{Rules}
use Rattle.pp_lexer.specs.declared.token.Location.{Location}
use Rattle.pp_lexer.specs.declared.token.PreprocessorError.TheVariants.{UnknownDirective, ElifAfterElse, MoreThanOneElse}
use Rattle.pp_lexer.specs.declared.token.Token.{Token}
use Rattle.pp_model.specs.Places.{Fault}
use Rattle.pp_model.specs.IncludeLaws.{is_line_directive, numbers_lines, has_line_directive}
use Rattle.pp_model.specs.Lines.{include_line, line_fault, line_tokens, ended_line, only_name}
use Rattle.pp_model.specs.DefineLines.{defined_on, undefined_on}
use Rattle.pp_model.specs.Sights.{sight_of}
use Rattle.pp_model.specs.Moves.{BlockFacts, Effect, asks, passes, defines, undefines, tests, decides, fails, renumbers, failing, passing, line_move, unread_move, skip_move, elif_move, else_effect, endif_move, directive_move, error_length, move_at}
use Rattle.pp_model.specs.declared.directive.Directive.{Directive}
use Rattle.pp_model.specs.declared.directive.Directive.TheVariants as d
use Rattle.pp_model.specs.declared.sight.Sight.{Sight}
use Rattle.pp_model.specs.declared.sight.Sight.TheVariants as sight
use Rattle.pp_model.proofs.source.MovesLemmas.{over_line}

-- the effect numbers lines anew
abbrev is_renumbering : Effect → Bool
is_renumbering (renumbers word tokens) = true
is_renumbering _ = false

-- neither a line with another effect nor one that isn't read numbers lines
line_move_keeps : {A : Type 0} (line : Result A Fault) (effect : A → Effect) (after : List Seen) → ((value : A) → is_renumbering (effect value) ≡ false)
    → is_renumbering (line_move line effect after).effect ≡ false
line_move_keeps (Ok value) effect after keeps = keeps value
line_move_keeps (Err fault) effect after keeps = refl

unread_move_keeps : (rules : Rules) (effect : Effect) (after : List Seen) → is_renumbering effect ≡ false
    → is_renumbering (unread_move rules effect after).effect ≡ false
unread_move_keeps rules effect after keeps = by rules.passes_dead_errors (line_fault after)
  where
    by : (passed : Bool) (found : Option Fault)
        → is_renumbering (if passed then over_line effect after else option_map_or failing found (over_line effect after)).effect ≡ false
    by true found = keeps
    by false (Some fault) = refl
    by false None = keeps

-- nor does a line that is skipped
skip_move_keeps : (rules : Rules) (after : List Seen) → is_renumbering (skip_move rules after).effect ≡ false
skip_move_keeps rules after = unread_move_keeps rules passes after refl

-- nor an `#elif`, an `#else` or an `#endif`
elif_move_keeps : (rules : Rules) (block : Option BlockFacts) (word : Location) (after : List Seen)
    → is_renumbering (elif_move rules block word after).effect ≡ false
elif_move_keeps rules None word after = refl
elif_move_keeps rules (Some block) word after = by block.has_else (not block.are_surroundings_live || block.has_taken_branch)
  where
    by : (late skipped : Bool)
        → is_renumbering (if late then failing (ElifAfterElse, word) else if skipped then skip_move rules after
        else line_move (line_tokens after) (decides word) after).effect ≡ false
    by true skipped = refl
    by false true = skip_move_keeps rules after
    by false false = line_move_keeps (line_tokens after) (decides word) after (λ tokens. refl)

else_effect_keeps : (block : Option BlockFacts) (word : Location) → is_renumbering (else_effect block word) ≡ false
else_effect_keeps None word = refl
else_effect_keeps (Some block) word = by block.has_else
  where
    by : (late : Bool) → is_renumbering (if late then fails (MoreThanOneElse, word) else passes) ≡ false
    by true = refl
    by false = refl

endif_move_keeps : (rules : Rules) (block : Option BlockFacts) (word : Location) (after : List Seen)
    → is_renumbering (endif_move rules block word after).effect ≡ false
endif_move_keeps rules None word after = refl
endif_move_keeps rules (Some block) word after = by block.are_surroundings_live
  where
    by : (live : Bool) → is_renumbering (if live then line_move (ended_line word after) (λ end. passes) after else skip_move rules after).effect ≡ false
    by true = line_move_keeps (ended_line word after) (λ end. passes) after (λ end. refl)
    by false = skip_move_keeps rules after

-- nor any other directive than `#line`
live_keeps : (rules : Rules) (block : Option BlockFacts) (directive : Directive) (word : Location) (after : List Seen) → is_line_directive directive ≡ false
    → is_renumbering (directive_move rules true block directive word after).effect ≡ false
live_keeps rules block d.Define word after h = line_move_keeps (defined_on rules word after) defines after (λ named. refl)
live_keeps rules block d.Undef word after h = line_move_keeps (undefined_on rules word after) undefines after (λ name. refl)
live_keeps rules block d.If word after h = line_move_keeps (line_tokens after) (decides word) after (λ tokens. refl)
live_keeps rules block d.Ifdef word after h = line_move_keeps (only_name word after) (tests (λ is. is)) after (λ name. refl)
live_keeps rules block d.Ifndef word after h = line_move_keeps (only_name word after) (tests not) after (λ name. refl)
live_keeps rules block d.Elif word after h = elif_move_keeps rules block word after
live_keeps rules block d.Else word after h = line_move_keeps (ended_line word after) (λ end. else_effect block word) after (λ end. else_effect_keeps block word)
live_keeps rules block d.Endif word after h = endif_move_keeps rules block word after
live_keeps rules block d.Error word after h = refl
live_keeps rules block d.Include word after h = by rules.asks_includes
  where
    by : (asked : Bool)
        → is_renumbering (if asked then unread_move rules (asks (include_line word after)) after else failing (UnknownDirective, word)).effect ≡ false
    by true = unread_move_keeps rules (asks (include_line word after)) after refl
    by false = refl
live_keeps rules block d.Line word after h = cc
live_keeps rules block d.Unknown word after h = refl
live_keeps rules block _ word after h = line_move_keeps (line_tokens after) _ after (λ tokens. refl)

-- nor any in dead text
dead_keeps : (rules : Rules) (block : Option BlockFacts) (directive : Directive) (word : Location) (after : List Seen)
    → is_renumbering (directive_move rules false block directive word after).effect ≡ false
dead_keeps rules block d.Elif word after = elif_move_keeps rules block word after
dead_keeps rules block d.Else word after = line_move_keeps (ended_line word after) (λ end. else_effect block word) after (λ end. else_effect_keeps block word)
dead_keeps rules block d.Endif word after = endif_move_keeps rules block word after
dead_keeps rules block d.Unknown word after = refl
dead_keeps rules block d.Include word after = by rules.asks_includes
  where
    by : (asked : Bool) → is_renumbering (if asked then skip_move rules after else passing 0).effect ≡ false
    by true = skip_move_keeps rules after
    by false = refl
dead_keeps rules block _ word after = skip_move_keeps rules after

-- what is in front keeps the numbers of lines, unless it is a `#line` directive
shown_keeps : (rules : Rules) (live : Bool) (facts : Option BlockFacts) (shown : Sight) (rest : List Seen) → numbers_lines shown ≡ false
    → is_renumbering (move_at rules live facts shown rest).effect ≡ false
shown_keeps rules true facts (sight.Directive directive word) rest h = live_keeps rules facts directive word (drop 2 rest) h
shown_keeps rules false facts (sight.Directive directive word) rest h = dead_keeps rules facts directive word (drop 2 rest)
shown_keeps rules live facts (sight.Fault fault) rest h = by (not live && rules.passes_dead_errors)
  where
    by : (passed : Bool) → is_renumbering (if passed then passing (error_length rest) else failing fault).effect ≡ false
    by true = refl
    by false = refl
shown_keeps rules true facts _ rest h = refl
shown_keeps rules false facts _ rest h = refl

-- so lines are numbered anew only by a `#line` directive
pub renumbers_in_line : (rules : Rules) (live : Bool) (facts : Option BlockFacts) (rest : List Seen) (word : Location) (tokens : List Token)
    → (move_at rules live facts (sight_of rest) rest).effect ≡ renumbers word tokens → numbers_lines (sight_of rest) ≡ true
renumbers_in_line rules live facts rest word tokens e = by (numbers_lines (sight_of rest)) refl
  where
    by : (numbers : Bool) → numbers_lines (sight_of rest) ≡ numbers → numbers ≡ true
    by true h = refl
    by false h = sym (shown_keeps rules live facts (sight_of rest) rest h) ∙ ap is_renumbering e

-- items without a `#line` directive have none in front, from each of them on
pub no_line_at : (items : List Seen) (i : ℕ) → has_line_directive items ≡ false → numbers_lines (sight_of (drop i items)) ≡ false
no_line_at [] zero h = refl
no_line_at [] (suc i) h = refl
no_line_at (s ∷ rest) zero h = (or_parts (numbers_lines (sight_of (s ∷ rest))) (has_line_directive rest) h).0
no_line_at (s ∷ rest) (suc i) h = no_line_at rest i (or_parts (numbers_lines (sight_of (s ∷ rest))) (has_line_directive rest) h).1

-- What holds of each kind of line holds of all directives: the one place where a proof goes through the table of Moves.
use Rattle.std.proofs.Common.{◌≡◌, refl, ◌≤◌, arith, Bool, true, false, not, ◌||◌, if◌then◌else◌, List, [], ◌∷◌, Option, Some, None}
use Rattle.std.specs.Prelude.{Result, Ok, Err}
use Rattle.pp_lexer.specs.Entry.{Entry}
use Rattle.pp_lexer.specs.Lexed.{Seen}
use Rattle.pp_lexer.specs.Preorder.{preorder}
use Rattle.pp_lexer.specs.TokenValue.{is_ordinary}
use Rattle.pp_lexer.specs.declared.token.Location.{Location}
use Rattle.pp_lexer.specs.declared.token.PreprocessorError.TheVariants.{ElifAfterElse, MoreThanOneElse, UnknownDirective}
use Rattle.pp_lexer.specs.declared.token.Token.{Token}
use Rattle.pp_lexer.specs.declared.token.TokenValue.{TokenValue}
use Rattle.pp_lexer.specs.declared.rules.Rules.{Rules}
use Rattle.pp_model.specs.Places.{Fault}
use Rattle.pp_model.specs.Names.{Name}
use Rattle.pp_model.specs.Lines.{include_line, line_length, line_fault, line_tokens, comments_before_end, ended_line, only_name}
use Rattle.pp_model.specs.DefineLines.{defined_on, undefined_on}
use Rattle.pp_model.specs.Sights.{is_directive_hash}
use Rattle.pp_model.specs.Blocks.{part_of}
use Rattle.pp_model.specs.Moves.{BlockFacts, Effect, gives_item, asks, fails, passes, defines, undefines, tests, decides, renumbers, Move, failing, passing, line_move, unread_move, skip_move, item_move, version_item, extension_item, pragma_item, elif_move, else_effect, else_move, endif_move, directive_move, error_length}
use Rattle.std.specs.Option.{option_map_or}
use Rattle.pp_model.specs.declared.block.Part.TheVariants as part
use Rattle.pp_model.specs.declared.definition.Named.{Named}
use Rattle.pp_model.specs.declared.directive.Directive.{Directive}
use Rattle.pp_model.specs.declared.directive.Directive.TheVariants as d

-- an effect of the whole line
abbrev pub over_line : Effect → List Seen → Move
over_line effect after = record { effect = effect; taken = line_length after }

-- whether an `#elif` of the block is skipped
abbrev pub skips : BlockFacts → Bool
skips block = not block.are_surroundings_live || block.has_taken_branch

-- The value is that of an item that holds a directive's tokens, whatever stands before it.
abbrev pub IsDirectiveItem : (Bool → Bool → TokenValue) → Type 0
IsDirectiveItem value = (has_text is_first : Bool) → is_ordinary (value has_text is_first) ≡ false

-- Why a line only takes its items, in live or in dead text: it is no block line, it opens a block in dead text, or it parts or
-- closes the innermost block without a condition.
pub data Passes (live : Bool) (block : Option BlockFacts) (directive : Directive) : Type 0 where
  plain : part_of directive ≡ None → Passes live block directive
  unread : live ≡ false → part_of directive ≡ Some part.Opens → Passes live block directive
  parting : part_of directive ≡ Some part.Else → (found : BlockFacts) → block ≡ Some found → found.has_else ≡ false → Passes live block directive
  skipping : part_of directive ≡ Some part.Elif → (found : BlockFacts) → block ≡ Some found → found.has_else ≡ false → skips found ≡ true
      → Passes live block directive
  closing : part_of directive ≡ Some part.Closes → (found : BlockFacts) → block ≡ Some found → Passes live block directive

-- Why a line has a condition: it opens a block in live text, or it parts the innermost one.
pub data Decides (live : Bool) (block : Option BlockFacts) (directive : Directive) : Type 0 where
  opening : live ≡ true → part_of directive ≡ Some part.Opens → Decides live block directive
  choosing : part_of directive ≡ Some part.Elif → (found : BlockFacts) → block ≡ Some found → found.has_else ≡ false → skips found ≡ false
      → Decides live block directive

-- It holds of each kind of line that this directive has, in live or in dead text.
pub record HoldsOfLine (P : Move → Type 0) (rules : Rules) (live : Bool) (block : Option BlockFacts) (directive : Directive)
    (word : Location) (after : List Seen) : Type 0 where
  pub failing : (fault : Fault) → P (failing fault)
  pub refusing : (fault : Fault) → P (over_line (fails fault) after)
  pub unknown : live ≡ false → part_of directive ≡ None → P (passing 0)
  pub passing : Passes live block directive → P (over_line passes after)
  pub items : live ≡ true → part_of directive ≡ None → (value : Bool → Bool → TokenValue) → IsDirectiveItem value
      → P (over_line (gives_item value word) after)
  pub asking : live ≡ true → directive ≡ d.Include → P (over_line (asks (include_line word after)) after)
  pub defining : live ≡ true → part_of directive ≡ None → (named : Named) → defined_on rules word after ≡ Ok named → P (over_line (defines named) after)
  pub undefining : live ≡ true → part_of directive ≡ None → (name : Name) → P (over_line (undefines name) after)
  pub numbering : live ≡ true → part_of directive ≡ None → (tokens : List Token) → P (over_line (renumbers word tokens) after)
  pub testing : live ≡ true → part_of directive ≡ Some part.Opens → (holds : Bool → Bool) (name : Name) → P (over_line (tests holds name) after)
  pub deciding : Decides live block directive → (tokens : List Token) → P (over_line (decides word tokens) after)

-- an error takes an item or more
pub error_taken : (rest : List Seen) → 1 ≤ error_length rest
error_taken [] = omega arith
error_taken (s ∷ []) = omega arith
error_taken (s ∷ t ∷ rest) = go (is_directive_hash s.item)
  where
    go : (b : Bool) → 1 ≤ (if b then 2 else 1)
    go true = omega arith
    go false = omega arith

module _ (P : Move → Type 0) (word : Location) (after : List Seen) (none : (fault : Fault) → P (failing fault)) where
  line_holds : {A : Type 0} (line : Result A Fault) (effect : A → Effect) → ((value : A) → line ≡ Ok value → P (over_line (effect value) after))
      → P (line_move line effect after)
  line_holds (Ok value) effect h = h value refl
  line_holds (Err fault) effect h = none fault

  unread_holds : (rules : Rules) (effect : Effect) → P (over_line effect after) → P (unread_move rules effect after)
  unread_holds rules effect h = of rules.passes_dead_errors
    where
      go : (found : Option Fault) → P (option_map_or failing found (over_line effect after))
      go (Some fault) = none fault
      go None = h

      of : (passed : Bool) → P (if passed then over_line effect after else option_map_or failing (line_fault after) (over_line effect after))
      of true = h
      of false = go (line_fault after)

  skip_holds : (rules : Rules) → P (over_line passes after) → P (skip_move rules after)
  skip_holds rules h = unread_holds rules passes h

  item_holds : (value : List Entry → Bool → Bool → TokenValue) → ((tokens : List Entry) → P (over_line (gives_item (value tokens) word) after))
      → P (item_move value word after)
  item_holds value h =
      line_holds (line_tokens after) (λ tokens. gives_item (value (preorder tokens)) word) (λ tokens is. h (preorder tokens))

module _ (P : Move → Type 0) (rules : Rules) (live : Bool) (directive : Directive) (word : Location) (after : List Seen) where
  elif_holds : (block : Option BlockFacts) → HoldsOfLine P rules live block directive word after → part_of directive ≡ Some part.Elif
      → P (elif_move rules block word after)
  elif_holds None all its = all.failing _
  elif_holds (Some found) all its = go found.has_else (skips found) refl refl
    where
      go : (e s : Bool) → found.has_else ≡ e → skips found ≡ s → P (if e then failing (ElifAfterElse, word) else if s then skip_move rules after
          else line_move (line_tokens after) (decides word) after)
      go true s p q = all.failing _
      go false true p q = skip_holds P word after all.failing rules (all.passing (skipping its found refl p q))
      go false false p q = line_holds P word after all.failing (line_tokens after) (decides word) (λ tokens is. all.deciding (choosing its found refl p q) tokens)

  else_holds : (block : Option BlockFacts) → HoldsOfLine P rules live block directive word after → part_of directive ≡ Some part.Else
      → P (else_move block word after)
  else_holds block all its = line_holds P word after all.failing (ended_line word after) (λ end. else_effect block word) (λ end is. of block refl)
    where
      of : (b : Option BlockFacts) → block ≡ b → P (over_line (else_effect b word) after)
      of None p = all.refusing _
      of (Some found) p = go found.has_else refl
        where
          go : (e : Bool) → found.has_else ≡ e → P (over_line (if e then fails (MoreThanOneElse, word) else passes) after)
          go true q = all.refusing _
          go false q = all.passing (parting its found p q)

  endif_holds : (block : Option BlockFacts) → HoldsOfLine P rules live block directive word after → part_of directive ≡ Some part.Closes
      → P (endif_move rules block word after)
  endif_holds None all its = all.failing _
  endif_holds (Some found) all its = go found.are_surroundings_live
    where
      go : (b : Bool) → P (if b then line_move (ended_line word after) (λ end. passes) after else skip_move rules after)
      go true = line_holds P word after all.failing (ended_line word after) (λ end. passes) (λ end is. all.passing (closing its found refl))
      go false = skip_holds P word after all.failing rules (all.passing (closing its found refl))

module _ (P : Move → Type 0) (rules : Rules) (block : Option BlockFacts) (word : Location) (after : List Seen) where
  live_holds : (directive : Directive) → HoldsOfLine P rules true block directive word after → P (directive_move rules true block directive word after)
  live_holds d.Define all = line_holds P word after all.failing (defined_on rules word after) defines (all.defining refl refl)
  live_holds d.Undef all = line_holds P word after all.failing (undefined_on rules word after) undefines (λ name is. all.undefining refl refl name)
  live_holds d.If all = line_holds P word after all.failing (line_tokens after) (decides word) (λ tokens is. all.deciding (opening refl refl) tokens)
  live_holds d.Ifdef all = line_holds P word after all.failing (only_name word after) (tests (λ is. is)) (λ name is. all.testing refl refl _ name)
  live_holds d.Ifndef all = line_holds P word after all.failing (only_name word after) (tests not) (λ name is. all.testing refl refl not name)
  live_holds d.Elif all = elif_holds P rules true d.Elif word after block all refl
  live_holds d.Else all = else_holds P rules true d.Else word after block all refl
  live_holds d.Endif all = endif_holds P rules true d.Endif word after block all refl
  live_holds d.Error all = all.failing _
  live_holds d.Include all = go rules.asks_includes
    where
      go : (b : Bool) → P (if b then unread_move rules (asks (include_line word after)) after else failing (UnknownDirective, word))
      go true = unread_holds P word after all.failing rules (asks (include_line word after)) (all.asking refl refl)
      go false = all.failing _
  live_holds d.Line all = line_holds P word after all.failing (line_tokens after) (renumbers word) (λ tokens is. all.numbering refl refl tokens)
  live_holds d.Version all = item_holds P word after all.failing (version_item (comments_before_end after)) (λ tokens. all.items refl refl _ (λ a b. refl))
  live_holds d.Extension all = item_holds P word after all.failing extension_item (λ tokens. all.items refl refl _ (λ a b. refl))
  live_holds d.Pragma all = item_holds P word after all.failing pragma_item (λ tokens. all.items refl refl _ (λ a b. refl))
  live_holds d.Unknown all = all.failing _

  dead_holds : (directive : Directive) → HoldsOfLine P rules false block directive word after → P (directive_move rules false block directive word after)
  dead_holds d.If all = skip_holds P word after all.failing rules (all.passing (unread refl refl))
  dead_holds d.Ifdef all = skip_holds P word after all.failing rules (all.passing (unread refl refl))
  dead_holds d.Ifndef all = skip_holds P word after all.failing rules (all.passing (unread refl refl))
  dead_holds d.Elif all = elif_holds P rules false d.Elif word after block all refl
  dead_holds d.Else all = else_holds P rules false d.Else word after block all refl
  dead_holds d.Endif all = endif_holds P rules false d.Endif word after block all refl
  dead_holds d.Unknown all = all.unknown refl refl
  dead_holds d.Include all = go rules.asks_includes
    where
      go : (b : Bool) → P (if b then skip_move rules after else passing 0)
      go true = skip_holds P word after all.failing rules (all.passing (plain refl))
      go false = all.unknown refl refl
  dead_holds _ all = skip_holds P word after all.failing rules (all.passing (plain refl))

  -- so it holds of each directive
  pub directive_holds : (live : Bool) (directive : Directive) → HoldsOfLine P rules live block directive word after
      → P (directive_move rules live block directive word after)
  directive_holds true directive all = live_holds directive all
  directive_holds false directive all = dead_holds directive all

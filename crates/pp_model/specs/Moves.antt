-- The table of directives: what a token or a line at the front of the items that are left does, one equation a rule
-- (GLSL ES 3.20, section 3.4, and docs/RULES.md, Directives 1 to 14). Acts says what each effect does to a reader.
-- The lines of `#define`, `#if`, `#elif` and `#line` are gathered here and decided in Reads.
use Rattle.std.specs.Prelude.{ℕ, ◌+◌, Bool, true, false, not, ◌&&◌, ◌||◌, if◌then◌else◌, List, ◌∷◌, drop, Option}
use Rattle.std.specs.Prelude.{Some, None, Result, Ok, Err}
use Rattle.std.specs.Option.{option_map_or}
use Rattle.pp_lexer.specs.declared.rules.Rules.{Rules}
use Rattle.pp_lexer.specs.Entry.{Entry}
use Rattle.pp_lexer.specs.Lexed.{Seen}
use Rattle.pp_lexer.specs.Preorder.{preorder}
use Rattle.pp_lexer.specs.declared.token.Location.{Location}
use Rattle.pp_lexer.specs.declared.token.PreprocessorError.TheVariants.{UnexpectedHash, ErrorDirective}
use Rattle.pp_lexer.specs.declared.token.PreprocessorError.TheVariants.{UnknownDirective, ElifOutsideOfBlock}
use Rattle.pp_lexer.specs.declared.token.PreprocessorError.TheVariants.{ElseOutsideOfBlock, EndifOutsideOfBlock}
use Rattle.pp_lexer.specs.declared.token.PreprocessorError.TheVariants.{ElifAfterElse, MoreThanOneElse}
use Rattle.pp_lexer.specs.declared.token.Token.{Token}
use Rattle.pp_lexer.specs.declared.token.TokenValue.{TokenValue}
use Rattle.pp_lexer.specs.declared.token.TokenValue.TheVariants.{Version, Extension, Pragma}
use Rattle.pp_model.specs.Places.{Fault}
use Rattle.pp_model.specs.Names.{Name}
use Rattle.pp_model.specs.Lines.{include_line, line_length, line_fault, line_tokens, comments_before_end, ended_line}
use Rattle.pp_model.specs.Lines.{only_name}
use Rattle.pp_model.specs.DefineLines.{defined_on, undefined_on}
use Rattle.pp_model.specs.Sights.{is_directive_hash}
use Rattle.pp_model.specs.declared.definition.Named.{Named}
use Rattle.pp_model.specs.declared.directive.Directive.{Directive}
use Rattle.pp_model.specs.declared.outcome.IncludeLine.{IncludeLine}
use Rattle.pp_model.specs.declared.directive.Directive.TheVariants as d
use Rattle.pp_model.specs.declared.sight.Sight.{Sight}
use Rattle.pp_model.specs.declared.sight.Sight.TheVariants as sight

-- the facts of the innermost block on which a line that parts or closes it depends
pub record BlockFacts : Type 0 where
  pub are_surroundings_live : Bool
  pub has_taken_branch : Bool
  pub has_else : Bool

pub data Effect : Type 0 where
  -- gives a token of the text
  gives : Token → Effect
  -- gives an item, whose value depends on whether live text comes before it, and on whether it is the first directive
  gives_item : (Bool → Bool → TokenValue) → Location → Effect
  -- asks for the text of an `#include` line
  asks : IncludeLine → Effect
  -- gives a fault; or at the end of the source the fault of each block that is open, and then the end
  fails : Fault → Effect
  ends : Effect
  -- Gives nothing. A line that opens, parts or closes a block and has no condition does no more: which blocks are open
  -- follows from the lines that were passed.
  passes : Effect
  -- defines a name, or takes its definition away
  defines : Named → Effect
  undefines : Name → Effect
  -- notes a condition: on whether a name is defined, or that of these tokens
  tests : (Bool → Bool) → Name → Effect
  decides : Location → List Token → Effect
  -- numbers the lines after it anew
  renumbers : Location → List Token → Effect

-- the effect, and the number of items that are taken
pub record Move : Type 0 where
  pub effect : Effect
  pub taken : ℕ

-- a fault; what is taken with it doesn't count, since what comes after it is left open
abbrev pub failing : Fault → Move
failing fault = record { effect = fails fault; taken = 0 }

abbrev pub passing : ℕ → Move
passing count = record { effect = passes; taken = count }

-- a line with this value or fault, if these items come after its word
abbrev pub line_move : {A : Type 0} → Result A Fault → (A → Effect) → List Seen → Move
line_move (Ok value) effect after = record { effect = effect value; taken = line_length after }
line_move (Err fault) effect after = failing fault

-- a line with this effect that isn't read, except for the lexer's errors; by GLSL's rules these are skipped too
abbrev pub unread_move : Rules → Effect → List Seen → Move
unread_move rules effect line =
    let move : Move = record { effect = effect; taken = line_length line } in
    if rules.passes_dead_errors then move else option_map_or failing (line_fault line) move

-- a line that is skipped
abbrev pub skip_move : Rules → List Seen → Move
skip_move rules line = unread_move rules passes line

-- an item that holds the tokens of its line
abbrev pub item_move : (List Entry → Bool → Bool → TokenValue) → Location → List Seen → Move
item_move value word after = line_move (line_tokens after) (λ tokens. gives_item (value (preorder tokens)) word) after

-- an `#include` line asks for its text, if the rules say so; otherwise it is an unknown directive
abbrev pub include_move : Rules → Location → List Seen → Move
include_move rules word after =
    if rules.asks_includes then unread_move rules (asks (include_line word after)) after
    else failing (UnknownDirective, word)

-- in dead text it is skipped, or it is dead text after an unknown word
abbrev pub dead_include_move : Rules → List Seen → Move
dead_include_move rules after = if rules.asks_includes then skip_move rules after else passing 0

abbrev pub version_item : Bool → List Entry → Bool → Bool → TokenValue
version_item has_comments tokens has_text is_first =
    Version (record { tokens = tokens; is_first_directive = is_first; has_comments_before = has_comments })

abbrev pub extension_item : List Entry → Bool → Bool → TokenValue
extension_item tokens has_text is_first = Extension (record { tokens = tokens; has_non_directive_before = has_text })

abbrev pub pragma_item : List Entry → Bool → Bool → TokenValue
pragma_item tokens has_text is_first = Pragma (record { tokens = tokens })

-- an `#elif` of the innermost block; it is skipped if its branch can't be the first one that is taken
abbrev pub elif_move : Rules → Option BlockFacts → Location → List Seen → Move
elif_move rules None word after = failing (ElifOutsideOfBlock, word)
elif_move rules (Some block) word after =
    if block.has_else then failing (ElifAfterElse, word)
    else if not block.are_surroundings_live || block.has_taken_branch then skip_move rules after
    else line_move (line_tokens after) (decides word) after

-- an `#else` of the innermost block, if its line ends as it must
abbrev pub else_effect : Option BlockFacts → Location → Effect
else_effect None word = fails (ElseOutsideOfBlock, word)
else_effect (Some block) word = if block.has_else then fails (MoreThanOneElse, word) else passes

abbrev pub else_move : Option BlockFacts → Location → List Seen → Move
else_move block word after = line_move (ended_line word after) (λ end. else_effect block word) after

-- an `#endif` of the innermost block; in dead surroundings its line is skipped
abbrev pub endif_move : Rules → Option BlockFacts → Location → List Seen → Move
endif_move rules None word after = failing (EndifOutsideOfBlock, word)
endif_move rules (Some block) word after =
    if block.are_surroundings_live then line_move (ended_line word after) (λ end. passes) after
    else skip_move rules after

-- A directive in live or in dead text, if these items come after its word. The directives that part and close blocks
-- act in dead text too.
abbrev pub directive_move : Rules → Bool → Option BlockFacts → Directive → Location → List Seen → Move
directive_move rules live block d.Elif word after = elif_move rules block word after
directive_move rules live block d.Else word after = else_move block word after
directive_move rules live block d.Endif word after = endif_move rules block word after
-- In live text each other directive acts.
directive_move rules true block d.Define word after = line_move (defined_on rules word after) defines after
directive_move rules true block d.Undef word after = line_move (undefined_on rules word after) undefines after
directive_move rules true block d.If word after = line_move (line_tokens after) (decides word) after
directive_move rules true block d.Ifdef word after = line_move (only_name word after) (tests (λ is. is)) after
directive_move rules true block d.Ifndef word after = line_move (only_name word after) (tests not) after
directive_move rules true block d.Error word after = failing (ErrorDirective, word)
directive_move rules true block d.Include word after = include_move rules word after
directive_move rules true block d.Line word after = line_move (line_tokens after) (renumbers word) after
directive_move rules true block d.Version word after = item_move (version_item (comments_before_end after)) word after
directive_move rules true block d.Extension word after = item_move extension_item word after
directive_move rules true block d.Pragma word after = item_move pragma_item word after
directive_move rules true block d.Unknown word after = failing (UnknownDirective, word)
-- In dead text each other line is skipped, also one that opens a block; after an unknown word it is dead text.
directive_move rules false block d.Unknown word after = passing 0
directive_move rules false block d.Include word after = dead_include_move rules after
directive_move rules false block _ word after = skip_move rules after

-- the items of an error in front, with the `#` of a directive before it
abbrev pub error_length : List Seen → ℕ
error_length (s ∷ t ∷ rest) = if is_directive_hash s.item then 2 else 1
error_length rest = 1

-- what is at the front of these items does this, in live or in dead text, if these are the facts of the innermost block
abbrev pub move_at : Rules → Bool → Option BlockFacts → Sight → List Seen → Move
move_at rules live block sight.End rest = record { effect = ends; taken = 0 }
move_at rules live block sight.NewLine rest = passing 1
move_at rules live block (sight.Fault fault) rest =
    if not live && rules.passes_dead_errors then passing (error_length rest) else failing fault
move_at rules live block (sight.Token token) rest =
    if live then record { effect = gives token; taken = 1 } else passing 1
move_at rules live block (sight.Hash location) rest = if live then failing (UnexpectedHash, location) else passing 1
move_at rules live block sight.Lone rest = passing 2
move_at rules live block (sight.NoWord fault) rest = if live then failing fault else passing 2
move_at rules live block (sight.Directive directive word) rest =
    let line = directive_move rules live block directive word (drop 2 rest) in
    record line { taken = 2 + line.taken }

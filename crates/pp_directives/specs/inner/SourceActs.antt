-- What a directive does once its word or its number sign has been read.
use Rattle.std.specs.Prelude.{◌≡◌, ◌≤◌, ◌+◌, ℕ, Bool, true, false, not, ◌&&◌, ◌||◌, if◌then◌else◌, List, [], length}
use Rattle.std.specs.Prelude.{take, drop, Option, Some, None, Result, Ok, Err, IfOk, ⊤}
use Rattle.pp_lexer.specs.Lexed.{Seen}
use Rattle.pp_lexer.specs.declared.rules.Rules.{Rules}
use Rattle.pp_lexer.specs.declared.lexer.item.Token.{Token as LexerToken}
use Rattle.pp_lexer.specs.declared.token.PreprocessorError.TheVariants.{DefineRedefined}
use Rattle.pp_lexer.specs.declared.token.Token.{Token}
use Rattle.pp_model.specs.Places.{Fault, PlacedFault, in_text, placed, unasked}
use Rattle.pp_model.specs.Acts.{defined_in}
use Rattle.pp_model.specs.Conversions.{is_newline, identifier_of, refused_token}
use Rattle.pp_model.specs.Definitions.{Definition, IsSameDefinition}
use Rattle.pp_lexer.specs.declared.token.Location.{Location}
use Rattle.pp_model.specs.Faults.{is_shown, shown_length}
use Rattle.pp_model.specs.Lines.{first_token, line_length}
use Rattle.pp_model.specs.Names.{Name}
use Rattle.pp_model.specs.Blocks.{part_of}
use Rattle.pp_model.specs.Sights.{directive_of}
use Rattle.pp_model.specs.inner.Sights.{directive_sight}
use Rattle.pp_model.specs.declared.definition.Named.{Named}
use Rattle.pp_model.specs.declared.directive.Directive.{Directive}
use Rattle.pp_model.specs.declared.directive.Directive.TheVariants as d
use Rattle.pp_macros.specs.inner.Defined.{meaning_of}
use Rattle.pp_macros.specs.inner.Faults.{LineLeft, nothing_left, line_left, left_at, IsUndefined}
use Rattle.pp_macros.specs.Held.{HoldsOrdinary}
use Rattle.pp_macros.specs.Item.{PlacedStep}
use Rattle.pp_macros.specs.inner.LineReading.{IsFurther}
use Rattle.pp_macros.specs.inner.Source.{Source, Condition, LineNumber, FirstNumber, offset_from, Makes}
use Rattle.pp_macros.specs.inner.Source.{unreported_of}
use Rattle.pp_macros.specs.inner.Unreported.{Reports}
use Rattle.pp_model.specs.Moves.{Effect, fails, defines, decides, renumbers, Move, failing, directive_move}
use Rattle.pp_model.specs.Moves.{BlockFacts, passing}
use Rattle.pp_model.specs.inner.Moves.{taking_more}
use Rattle.pp_directives.specs.inner.Skipping.{SkipsRest}
use Rattle.pp_macros.specs.inner.OpenBlocks.{BlockChange, unchanged, block_change, block_change_at, facts_among}
use Rattle.pp_macros.specs.inner.OpenBlocks.{is_live_among}
use Rattle.pp_macros.specs.inner.SourceMoves.{Note, unnoted, note_at}
use Rattle.pp_macros.specs.declared.halt.PlacedHalt.{PlacedHalt}
use Rattle.pp_macros.specs.declared.halt.PlacedHalt.TheVariants as halt
use Rattle.pp_macros.specs.declared.step.PlacedExit.TheVariants.{Continue}
use Rattle.pp_directives.specs.inner.DirectiveHalts.{placed_at, result_at, shown, step_at, unplaced_result}
use Rattle.pp_directives.specs.declared.given.Given.{Given}
use Rattle.pp_directives.specs.declared.given.Given.TheVariants.{Nothing}
use Rattle.pp_directives.specs.declared.directive_halt.DirectiveHalt.{DirectiveHalt}
use Rattle.pp_model.specs.Numbering.{list_numbering}

-- how many items of a line a fault takes once the directive's word was read, if the line's fronts have these effects
abbrev pub taken_after : (List Seen → Effect) → List Seen → ℕ
taken_after effect line = if is_shown (effect []) then 0 else shown_length effect line

-- What a directive's line does: its move, and what becomes of the blocks; and with a fault: how many items it takes,
-- and what stays of the line.
pub record LineAct : Type 0 where
  pub move : Move
  pub change : BlockChange
  pub taken : ℕ
  pub left : LineLeft

-- The same of a line, before it is noted that a directive item is a directive all the same: outside of all blocks an
-- `#elif` is one too.
abbrev pub unnoted_left : LineLeft → LineLeft
unnoted_left left = record left { is_directive = left.is_dead }

-- a line with this move, if these items come after its word
abbrev pub line_act : BlockChange → LineLeft → (List Seen → Move) → List Seen → LineAct
line_act change left move rest = record {
  move = move rest;
  change = change;
  taken = taken_after (λ items. (move items).effect) (take (line_length rest) rest);
  left = unnoted_left left;
}

-- a line after which nothing stays of a fault
abbrev pub plain_act : (List Seen → Move) → List Seen → LineAct
plain_act move rest = line_act unchanged nothing_left move rest

-- After a fault that took `taken` items, if this stays of its line. No more items and open blocks are left.
pub record HasLeft (taken : ℕ) (left : LineLeft) (old new : Source) : Type 0 where
  pub rules : new.rules ≡ old.rules
  pub text : new.text ≡ old.text
  pub earlier : new.earlier ≡ old.earlier
  pub around : new.around ≡ old.around
  pub contents : new.contents ≡ old.contents
  pub has_text : new.has_text ≡ old.has_text
  pub rest : new.rest ≡ drop taken old.rest
  pub further : IsFurther old.over old.rest new.over new.rest
  pub fewer : length new.rest + length new.blocks ≤ length old.rest + length old.blocks
  pub blocks : new.blocks ≡ left.change None old.blocks
  pub definitions : IsUndefined left.undefined old.definitions new.definitions
  pub line_offset : new.line_offset ≡ old.line_offset
  pub has_directive : new.has_directive ≡ (left.is_directive || old.has_directive)
  pub dead_for_good : new.dead_for_good ≡ (left.is_dead || old.dead_for_good)
  pub spent : new.spent ≡ false

abbrev pub RedefinesWith : ℕ → Named → Option Definition → PlacedFault → Type 0
RedefinesWith text named None fault = ⊥
RedefinesWith text named (Some before) fault =
    (IsSameDefinition before named.definition → ⊥) × (fault ≡ placed text (DefineRedefined, named.location))

-- An effect has this fault in this source, and P holds of the source, which counts its lines from the number of a
-- `#line` with a fault. A fault of an expansion asks for no text.
abbrev pub FailsWith : Effect → Source → PlacedFault → (Source → Type 0) → Type 0
FailsWith (fails wanted) old fault P = (fault ≡ placed old.text wanted) × P old
FailsWith (defines named) old fault P =
    RedefinesWith old.text (defined_in old.text named) (meaning_of old.definitions named.name) fault × P old
FailsWith (decides word tokens) old fault P =
    (found : PlacedFault)
    × Condition (in_text old.text word) tokens (list_numbering old.rules old.line_offset) old.definitions (Err found)
    × (fault ≡ unasked found)
    × P old
FailsWith (renumbers word tokens) old fault P =
    let numbering = list_numbering old.rules old.line_offset in
    (found : PlacedFault) × (number : Option ℕ)
    × LineNumber (in_text old.text word) tokens numbering old.definitions (Err found)
    × FirstNumber (in_text old.text word) tokens numbering old.definitions number
    × (fault ≡ unasked found)
    × P (record old { line_offset = offset_from old word number })
FailsWith _ old fault P = ⊥

-- this is why a directive that does so gives nothing; if memory ran out, this says nothing
abbrev pub Stops : LineAct → Source → PlacedHalt → Source → Type 0
Stops act old (halt.Fault fault) new =
    FailsWith act.move.effect old fault (λ from. HasLeft act.taken act.left from new)
Stops act old halt.OutOfMemory new = ⊤

-- A directive does so: with a value, the step that shows it; with a fault, that of the move's effect. If memory runs
-- out, this says nothing.
abbrev pub DoesAct : {A : Type 0} → (A → PlacedStep Token) → Note → LineAct → Source
    → Result A DirectiveHalt → Source → Type 0
DoesAct shows note act old (Ok value) new = Makes note act.change act.move old (shows value) new
DoesAct shows note act old (Err halt) new = Stops act old (placed_at old.text halt) new

-- A directive does so; what it gives holds ordinary tokens; and an error of the lexer that it reads is reported, unless
-- it is passed.
pub record ActsAs {A : Type 0} (shows : A → PlacedStep Token) (note : Note) (act : LineAct) (old : Source)
    (result : Result A DirectiveHalt) (new : Source) : Type 0 where
  pub acts : DoesAct shows note act old result new
  pub holds : IfOk result (λ value. IfOk (shows value) (λ token. HoldsOrdinary token.value))
  pub errors : Reports old.rules.passes_dead_errors (unplaced_result result) (unreported_of old) (unreported_of new)

-- a directive that gives nothing, as one that may give an item
abbrev pub without_item : Result (Unit {0}) DirectiveHalt → Result Given DirectiveHalt
without_item (Ok done) = Ok Nothing
without_item (Err halt) = Err halt

-- whether the condition holds of a name that is defined or isn't: that of an `#ifdef` if `wanted` is true, that of an
-- `#ifndef` otherwise
abbrev pub is_as : Bool → Bool → Bool
is_as wanted is = if wanted then is else not is

-- after a directive's word, before it is noted: a directive that gives an item, one that gives nothing, and any
abbrev pub ActsAsItem : LineAct → Source → Result Token DirectiveHalt → Source → Type 0
ActsAsItem act old result new = ActsAs (λ token. Ok token) unnoted act old result new

abbrev pub Acts : LineAct → Source → Result (Unit {0}) DirectiveHalt → Source → Type 0
Acts act old result new = ActsAs (λ done. Err Continue) unnoted act old result new

abbrev pub Gives : LineAct → Source → Result Given DirectiveHalt → Source → Type 0
Gives act old result new = ActsAs (shown old.text) unnoted act old result new

-- after a directive's number sign, with what is noted: a directive that gives nothing, and any
abbrev pub ActsNoted : Note → LineAct → Source → Result (Unit {0}) DirectiveHalt → Source → Type 0
ActsNoted note act old result new = ActsAs (λ done. Err Continue) note act old result new

abbrev pub GivesNoted : Note → LineAct → Source → Result Given DirectiveHalt → Source → Type 0
GivesNoted note act old result new = ActsAs (shown old.text) note act old result new

-- whether the directive is an item in live text
abbrev pub is_item : Directive → Bool
is_item d.Version = true
is_item d.Extension = true
is_item d.Pragma = true
is_item _ = false

-- a directive, if these items come after its word
abbrev pub directive_act : Rules → Bool → Option BlockFacts → Directive → Location → List Seen → LineAct
directive_act rules live block directive word after =
    line_act (block_change (part_of directive) word) (line_left rules live block directive word after)
    (directive_move rules live block directive word) after

-- what is noted, if this is the item after the number sign
abbrev pub word_note : Bool → Result LexerToken Fault → Note
word_note live first = note_at live (directive_sight first)

-- the move after a directive's number sign, if this token follows it, and then these items
abbrev pub name_move : Rules → Bool → Option BlockFacts → LexerToken → Option Name → List Seen → Move
name_move rules live block token (Some name) after =
    taking_more 1 (directive_move rules live block (directive_of name) token.location after)
name_move rules live block token None after =
    if is_newline token.value then passing 1 else if live then failing (refused_token token) else passing 1

abbrev pub word_move : Rules → Bool → Option BlockFacts → Result LexerToken Fault → List Seen → Move
word_move rules live block (Ok token) after = name_move rules live block token (identifier_of token.value) after
word_move rules live block (Err fault) after =
    if not live && rules.passes_dead_errors then passing 1 else failing fault

-- what these items do after the number sign, which is at `hash`
abbrev pub word_effect : Rules → Bool → Option BlockFacts → Location → List Seen → Effect
word_effect rules live block hash items = (word_move rules live block (first_token hash items) (drop 1 items)).effect

-- what a directive does after its number sign, if these items follow it
abbrev pub word_act : Rules → Bool → Option BlockFacts → Location → List Seen → LineAct
word_act rules live block hash rest = record {
  move = word_move rules live block (first_token hash rest) (drop 1 rest);
  change = block_change_at (directive_sight (first_token hash rest));
  taken = shown_length (word_effect rules live block hash) (take (line_length rest) rest);
  left = left_at rules live block (directive_sight (first_token hash rest)) (drop 1 rest);
}

-- what a directive of this source does and gives after its number sign, which is at `hash`
abbrev pub GivesDirective : Location → Source → Result Given DirectiveHalt → Source → Type 0
GivesDirective hash old result new =
    let live = is_live_among old.dead_for_good old.blocks in
    GivesNoted (word_note live (first_token hash old.rest))
    (word_act old.rules live (facts_among old.blocks) hash old.rest) old result new

-- after a fault of a directive what is left of its line is skipped, if the rules say so
abbrev pub SkipsAfter : Result Given PlacedHalt → Source → Source → Type 0
SkipsAfter (Ok given) mid new = new ≡ mid
SkipsAfter (Err (halt.Fault fault)) mid new = SkipsRest mid new
SkipsAfter (Err halt.OutOfMemory) mid new = ⊤

-- and all this as a step
pub record StepsDirective (hash : Location) (old : Source) (step : PlacedStep Token) (new : Source) : Type 0 where
  pub given : Result Given DirectiveHalt
  pub mid : Source
  pub gives : GivesDirective hash old given mid
  pub skips : SkipsAfter (result_at old.text given) mid new
  pub is : step ≡ step_at old.text given

-- a `#define`, once its line is read
abbrev pub define_act : Named → LineAct
define_act named = record {
  move = record { effect = defines named; taken = 0 };
  change = unchanged;
  taken = 0;
  left = nothing_left;
}

-- What a fault takes of the items of a source, and what stays of its line (docs/RULES.md, After an error).
use Rattle.std.specs.Prelude.{◌≡◌, ℕ, Bool, true, false, ◌&&◌, if◌then◌else◌, List, take, drop, length}
use Rattle.std.specs.Prelude.{Option, Some, None, option_map}
use Rattle.std.specs.List.{list_any}
use Rattle.std.specs.Result.{result_ok}
use Rattle.pp_lexer.specs.Lexed.{Seen}
use Rattle.pp_lexer.specs.declared.rules.Rules.{Rules}
use Rattle.pp_lexer.specs.declared.token.Location.{Location}
use Rattle.pp_expression.specs.Answers.{◌>>=◌}
use Rattle.pp_model.specs.DefineLines.{free_name}
use Rattle.pp_model.specs.Faults.{shown_length}
use Rattle.pp_model.specs.Lines.{line_length, first_name}
use Rattle.pp_model.specs.Moves.{BlockFacts}
use Rattle.pp_model.specs.Names.{Name}
use Rattle.pp_model.specs.Sights.{sight_of, is_directive_hash}
use Rattle.pp_model.specs.declared.block.Part.TheVariants as part
use Rattle.pp_model.specs.declared.directive.Directive.{Directive}
use Rattle.pp_model.specs.declared.directive.Directive.TheVariants as d
use Rattle.pp_model.specs.declared.sight.Sight.{Sight}
use Rattle.pp_model.specs.declared.sight.Sight.TheVariants as sight
use Rattle.pp_macros.specs.inner.Defined.{Defined, IsChanged}
use Rattle.pp_macros.specs.inner.OpenBlocks.{BlockChange, unchanged, elif_change, block_change, facts_among}
use Rattle.pp_macros.specs.inner.OpenBlocks.{is_live_among}
use Rattle.pp_macros.specs.inner.SourceMoves.{move_of}
use Rattle.pp_macros.specs.declared.blocks.OpenBlock.{OpenBlock}

-- by GLSL's rules a fault of a directive takes its line
abbrev pub takes_line : Rules → List Seen → Bool
takes_line rules line = rules.passes_dead_errors && list_any (λ s. is_directive_hash s.item) (take 1 line)

-- how many items a fault takes: those that show it, or else the line
abbrev pub fault_taken : Rules → Bool → List OpenBlock → List Seen → ℕ
fault_taken rules dead_for_good blocks rest =
    let line = take (line_length rest) rest in
    if takes_line rules line then length line
    else shown_length (λ items. (move_of rules dead_for_good blocks items).effect) line

-- What stays of a line with a fault: what it does to the open blocks, the name that it undefines, whether it is a
-- directive all the same, and whether the rest of the text is dead for good.
pub record LineLeft : Type 0 where
  pub change : BlockChange
  pub undefined : Option Name
  pub is_directive : Bool
  pub is_dead : Bool

abbrev pub nothing_left : LineLeft
nothing_left = record { change = unchanged; undefined = None; is_directive = false; is_dead = false }

-- what a line does to the blocks stays
abbrev pub change_left : BlockChange → LineLeft
change_left change = record nothing_left { change = change }

-- a directive all the same
abbrev pub directive_left : LineLeft
directive_left = record nothing_left { is_directive = true }

-- an `#elif` of a block counts as one whose condition is false; outside of all blocks all that follows is dead
abbrev pub elif_left : Option BlockFacts → LineLeft
elif_left None = record directive_left { is_dead = true }
elif_left (Some block) = change_left elif_change

-- an `#endif` of a block ends it
abbrev pub endif_left : Option BlockFacts → Location → LineLeft
endif_left None word = nothing_left
endif_left (Some block) word = change_left (block_change (Some part.Closes) word)

-- an `#undef` takes a definition away once its name was read
abbrev pub undef_left : Rules → Location → List Seen → LineLeft
undef_left rules word after =
    let name = result_ok (first_name word after >>= free_name rules) in
    record nothing_left { undefined = option_map (λ first. first.name) name }

-- a line that opens a block in dead text opens it
abbrev pub opening_left : Location → LineLeft
opening_left word = change_left (block_change (Some part.Opens) word)

-- what stays of a directive's line in live or in dead text, if these items come after its word
abbrev pub line_left : Rules → Bool → Option BlockFacts → Directive → Location → List Seen → LineLeft
line_left rules live block d.Elif word after = elif_left block
line_left rules live block d.Endif word after = endif_left block word
line_left rules true block d.Undef word after = undef_left rules word after
line_left rules true block d.Version word after = directive_left
line_left rules true block d.Extension word after = directive_left
line_left rules true block d.Pragma word after = directive_left
line_left rules false block d.If word after = opening_left word
line_left rules false block d.Ifdef word after = opening_left word
line_left rules false block d.Ifndef word after = opening_left word
line_left rules live block _ word after = nothing_left

-- what stays of what is in front, if these items come after a directive's word
abbrev pub left_at : Rules → Bool → Option BlockFacts → Sight → List Seen → LineLeft
left_at rules live block (sight.Directive directive word) after = line_left rules live block directive word after
left_at rules live block _ after = nothing_left

-- what stays of the first of these items, or of its line, if these blocks are open, and if an `#elif` outside of all
-- blocks made the rest dead
abbrev pub left_of : Rules → Bool → List OpenBlock → List Seen → LineLeft
left_of rules dead_for_good blocks rest =
    left_at rules (is_live_among dead_for_good blocks) (facts_among blocks) (sight_of rest) (drop 2 rest)

-- this name is undefined, or nothing changes
abbrev pub IsUndefined : Option Name → List Defined → List Defined → Type 0
IsUndefined None old new = new ≡ old
IsUndefined (Some name) old new = IsChanged name None old new

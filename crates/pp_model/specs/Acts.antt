-- What a token or a directive's line of a source does: the reader is changed as the table of Moves says (GLSL ES 3.20,
-- section 3.4, and docs/RULES.md, Directives 1 to 14).
use Rattle.std.specs.Prelude.{ℕ, ◌+◌, ◌-◌, Bool, List, [], ◌∷◌, take, drop, length, Option, Some, None, option_map}
use Rattle.std.specs.Prelude.{is_some}
use Rattle.pp_lexer.specs.declared.token.PreprocessorError.TheVariants.{UnfinishedBlock}
use Rattle.pp_model.specs.Definitions.{with_change}
use Rattle.pp_model.specs.Sights.{sight_of}
use Rattle.pp_model.specs.Blocks.{Block, blocks_at, innermost, is_live, are_surroundings_live, has_taken_branch}
use Rattle.pp_model.specs.Blocks.{has_else}
use Rattle.pp_model.specs.SourceReader.{Suspended, SourceReader, had_text, is_first_directive, resumed}
use Rattle.pp_model.specs.Moves.{BlockFacts, Effect, gives, gives_item, asks, fails, ends, passes, defines, undefines}
use Rattle.pp_model.specs.Moves.{tests, decides, renumbers, Move, move_at}
use Rattle.pp_model.specs.declared.definition.Named.{Named}
use Rattle.pp_model.specs.declared.outcome.Outcome.{Outcome}
use Rattle.pp_model.specs.declared.outcome.Outcome.TheVariants as outcome
use Rattle.pp_model.specs.declared.step.Step.{Step}
use Rattle.pp_model.specs.declared.step.Step.TheVariants as step

-- a step, and the reader after it; a fault leaves the reader at its position, since what comes after one is left open
pub record Acted : Type 0 where
  pub step : Step
  pub after : SourceReader

abbrev pub pause_at : SourceReader → Acted
pause_at after = record { step = step.Passed; after = after }

abbrev pub outcome_at : Outcome → SourceReader → Acted
outcome_at outcome after = record { step = step.Given outcome; after = after }

-- the reader this many items further on
abbrev pub advanced_by : ℕ → SourceReader → SourceReader
advanced_by count reader = record reader { position = reader.position + count }

-- the reader once the condition of the line at this position was read and holds or not
abbrev pub decided : ℕ → Bool → SourceReader → SourceReader
decided position holds r = record r { truths = record { position = position; holds = holds } ∷ r.truths }

-- behind the end of an included text reading goes on in the text around it
abbrev pub leave : List Suspended → SourceReader → Acted
leave [] reader = outcome_at outcome.End reader
leave (outer ∷ around) reader = pause_at (resumed outer around reader)

-- at the end each block that is still to be reported gives its fault, the innermost first
abbrev pub end_by : Option Block → SourceReader → Acted
end_by (Some block) reader =
    let after = record reader { unfinished = reader.unfinished - 1 } in
    outcome_at (outcome.Fault (UnfinishedBlock, block.first.word)) after
end_by None reader = leave reader.around reader

abbrev pub end_at : SourceReader → Acted
end_at reader = end_by (innermost (take reader.unfinished (blocks_at reader.items (length reader.items)))) reader

-- what a line of this text defines
abbrev pub defined_in : ℕ → Named → Named
defined_in text named = record named { definition = record named.definition { text = text } }

-- what an effect does to the reader `r`, if `after` is that reader after the items that are taken
abbrev pub effect_on : Effect → SourceReader → SourceReader → Acted
effect_on (gives token) r after = outcome_at (outcome.Token token) after
effect_on (gives_item value word) r after =
    outcome_at (outcome.Token (record { value = value (had_text r) (is_first_directive r); location = word })) after
effect_on (asks line) r after = outcome_at (outcome.Include line) after
effect_on (fails fault) r after = outcome_at (outcome.Fault fault) r
effect_on ends r after = end_at r
effect_on passes r after = pause_at after
effect_on (defines named) r after = record { step = step.Defines (defined_in r.text named); after = after }
effect_on (undefines name) r after = pause_at (record after { definitions = with_change r.definitions name None })
effect_on (tests holds name) r after = pause_at (decided r.position (holds (is_some (r.definitions name))) after)
effect_on (decides word tokens) r after = record { step = step.Condition word tokens; after = after }
effect_on (renumbers word tokens) r after = record { step = step.LineNumber word tokens; after = after }

abbrev pub perform : Move → SourceReader → Acted
perform move reader = effect_on move.effect reader (advanced_by move.taken reader)

-- the facts of a block for the table of Moves
abbrev pub facts_of : SourceReader → Block → BlockFacts
facts_of reader block = record {
  are_surroundings_live = are_surroundings_live reader.items reader.truths block;
  has_taken_branch = has_taken_branch reader.truths block;
  has_else = has_else block;
}

abbrev pub facts_here : SourceReader → Option BlockFacts
facts_here reader = option_map (facts_of reader) (innermost (blocks_at reader.items reader.position))

-- what the table of Moves says of the item at the reader's position is done to the reader
abbrev pub act : SourceReader → Acted
act reader =
    let rest = drop reader.position reader.items in
    let live = is_live reader.items reader.truths reader.position in
    perform (move_at reader.rules live (facts_here reader) (sight_of rest) rest) reader

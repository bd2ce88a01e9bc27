-- What a fault takes of a source, and the reader after it (docs/RULES.md, After an error).
use Rattle.std.specs.Prelude.{ℕ, ◌+◌, Bool, true, false, ◌&&◌, if◌then◌else◌, List, [], map, ◌∷◌, ◌++◌, take, drop}
use Rattle.std.specs.Prelude.{length, Option, Some, None, option_map, Ok, codes}
use Rattle.std.specs.Option.{option_map_or}
use Rattle.std.specs.List.{list_any}
use Rattle.std.specs.Result.{result_ok}
use Rattle.pp_lexer.specs.Lexed.{Seen}
use Rattle.pp_lexer.specs.declared.lexer.item.TokenValue.TheVariants.{Hash, NewLine, Ident}
use Rattle.pp_lexer.specs.declared.token.Location.{Location}
use Rattle.pp_lexer.specs.declared.token.PreprocessorError.TheVariants.{UnexpectedEndOfInput}
use Rattle.pp_expression.specs.Answers.{◌>>=◌}
use Rattle.pp_model.specs.Names.{Name}
use Rattle.pp_model.specs.Definitions.{Definitions, with_change}
use Rattle.pp_model.specs.Lines.{line_length, first_name}
use Rattle.pp_model.specs.DefineLines.{free_name}
use Rattle.pp_model.specs.Sights.{sight_of, is_directive_hash}
use Rattle.pp_model.specs.Blocks.{blocks_at, innermost, Truths, is_live}
use Rattle.pp_model.specs.SourceReader.{SourceReader}
use Rattle.pp_model.specs.Moves.{BlockFacts, Effect, fails, Move, move_at}
use Rattle.pp_model.specs.Acts.{facts_of}
use Rattle.pp_model.specs.declared.directive.Directive.{Directive}
use Rattle.pp_model.specs.declared.directive.Directive.TheVariants as d
use Rattle.pp_model.specs.declared.sight.Sight.{Sight}
use Rattle.pp_model.specs.declared.sight.Sight.TheVariants as sight

-- the facts of the innermost block at the reader's position that isn't among the outermost `n`
abbrev pub facts_past : ℕ → SourceReader → Option BlockFacts
facts_past n r = option_map (facts_of r) (innermost (drop n (blocks_at r.items r.position)))

-- what these items do at the reader's position, if no more are left
abbrev pub move_past : ℕ → SourceReader → List Seen → Move
move_past n r items =
    move_at r.rules (is_live r.items r.truths r.position) (facts_past n r) (sight_of items) items

-- it fails, and not since something is missing
abbrev pub is_shown : Effect → Bool
is_shown (fails (UnexpectedEndOfInput, place)) = false
is_shown (fails fault) = true
is_shown _ = false

-- the length of the shortest front of these items that shows its fault, or of all
abbrev pub shown_length : (List Seen → Effect) → List Seen → ℕ
shown_length effect [] = 0
shown_length effect (s ∷ rest) =
    if is_shown (effect (s ∷ [])) then 1 else 1 + shown_length (λ more. effect (s ∷ more)) rest

-- How many items a fault takes: those that show it, or else the line. By GLSL's rules one of a directive takes it.
abbrev pub fault_length : ℕ → SourceReader → ℕ
fault_length n r =
    let rest = drop r.position r.items in
    let line = take (line_length rest) rest in
    if r.rules.passes_dead_errors && list_any (λ s. is_directive_hash s.item) (take 1 line) then length line
    else shown_length (λ items. (move_past n r items).effect) line

-- The word of the line that stays for what was taken. An `#elif` outside of all blocks leaves the first line of one.
abbrev pub left_word : Bool → Option BlockFacts → Directive → Option Name
left_word live (Some block) d.Elif = Some (codes "elif")
left_word live (Some block) d.Endif = Some (codes "endif")
left_word true None d.Elif = Some (codes "if")
left_word false block d.If = Some (codes "if")
left_word false block d.Ifdef = Some (codes "if")
left_word false block d.Ifndef = Some (codes "if")
left_word true block d.Version = Some (codes "pragma")
left_word true block d.Extension = Some (codes "pragma")
left_word true block d.Pragma = Some (codes "pragma")
left_word live block _ = None

-- a line of this word alone
abbrev pub word_line : Location → Name → List Seen
word_line place name =
    map (λ value. record {
      item = Ok (record { value = value; location = place; leading_whitespace = true; start_of_line = true });
      had_comments = false;
    }) (Hash ∷ Ident name ∷ NewLine ∷ [])

-- what stays for what was taken
abbrev pub left_line : Bool → Option BlockFacts → Sight → List Seen
left_line live block (sight.Directive directive word) =
    option_map_or (word_line word) (left_word live block directive) []
left_line live block _ = []

-- an `#elif` of a block counts as one whose condition is false
abbrev pub truths_left : Option BlockFacts → Sight → SourceReader → Truths
truths_left (Some block) (sight.Directive d.Elif word) r = record { position = r.position; holds = false } ∷ r.truths
truths_left block s r = r.truths

-- an `#elif` outside of all blocks makes all that is left of its text dead
abbrev pub makes_dead : Option BlockFacts → Sight → Bool
makes_dead None (sight.Directive d.Elif word) = true
makes_dead block s = false

-- an `#undef` counts once its name was read
abbrev pub definitions_left : Bool → Sight → SourceReader → Definitions
definitions_left true (sight.Directive d.Undef word) r =
    let name = result_ok (first_name word (drop (r.position + 2) r.items) >>= free_name r.rules) in
    option_map_or (λ first. with_change r.definitions first.name None) name r.definitions
definitions_left live s r = r.definitions

-- The reader after a fault at its position: what was taken is gone as if it had never been there, but for what stays.
abbrev pub after_fault : ℕ → SourceReader → SourceReader
after_fault n r =
    let rest = drop r.position r.items in
    let here = sight_of rest in
    let live = is_live r.items r.truths r.position in
    let line = left_line live (facts_past n r) here in
    let items = take r.position r.items ++ line ++ drop (fault_length n r) rest in
    record r {
      items = items;
      position = r.position + length line;
      truths = truths_left (facts_past n r) here r;
      definitions = definitions_left live here r;
      unfinished = length (blocks_at items (length items));
    }

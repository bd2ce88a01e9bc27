-- What a token or a directive does: what holds of each kind of step holds of all items of a source.
use Rattle.std.proofs.Common.{if◌then◌else◌, ap, ◌≡◌, ◌∙◌, Bool, true, false, ℕ, ◌≤◌, List, refl, Option, None, arith, ◌⊎◌, inl, inr}
use Rattle.std.specs.Prelude.{Ok}
use Rattle.pp_lexer.specs.TokenValue.{is_ordinary}
use Rattle.pp_lexer.specs.declared.token.Location.{Location}
use Rattle.pp_lexer.specs.declared.token.Token.{Token}
use Rattle.pp_model.specs.Places.{Fault}
use Rattle.pp_model.specs.Names.{Name}
use Rattle.pp_model.specs.Definitions.{with_change}
use Rattle.pp_model.specs.DefineLines.{defined_on}
use Rattle.pp_model.specs.Sights.{sight_of}
use Rattle.pp_model.specs.Blocks.{is_live}
use Rattle.pp_model.specs.SourceReader.{SourceReader}
use Rattle.pp_model.specs.Moves.{BlockFacts, failing, passing, move_at, directive_move, error_length}
use Rattle.pp_model.specs.Acts.{Acted, pause_at, outcome_at, advanced_by, defined_in, end_at, perform, facts_here, act}
use Rattle.pp_model.specs.inner.Acts.{perform_line, fault_at, item_at, items_left, after_word, after_line, after_condition}
use Rattle.pp_model.specs.declared.definition.Named.{Named}
use Rattle.pp_model.specs.declared.directive.Directive.{Directive}
use Rattle.pp_model.specs.declared.directive.Directive.TheVariants as d
use Rattle.pp_model.specs.declared.outcome.Outcome.TheVariants as outcome
use Rattle.pp_model.specs.Lines.{include_line}
use Rattle.pp_model.specs.declared.sight.Sight.{Sight}
use Rattle.pp_model.specs.declared.sight.Sight.TheVariants as sight
use Rattle.pp_model.specs.declared.step.Step.TheVariants as step
use Rattle.pp_model.proofs.source.MovesLemmas.{error_taken, directive_holds}

-- the text is live where the reader is
abbrev pub IsLiveHere : SourceReader → Type 0
IsLiveHere r = is_live r.items r.truths r.position ≡ true

-- The token stands there, or is the item of the directive that does.
abbrev pub StandsThere : SourceReader → Token → Type 0
StandsThere r token =
    (sight_of (items_left r) ≡ sight.Token token)
    ⊎ ((directive : Directive) × (sight_of (items_left r) ≡ sight.Directive directive token.location) × (is_ordinary token.value ≡ false))

-- It holds of what may come of any text: the end, a fault, nothing, where an item or more is passed, or a line whose condition is
-- wanted; and of what more may come of live text.
pub record HoldsOfActs (P : Acted → Type 0) (r : SourceReader) : Type 0 where
  pub end : sight_of (items_left r) ≡ sight.End → P (end_at r)
  pub fault : (found : Fault) → P (fault_at found r)
  pub nothing : (count : ℕ) → 1 ≤ count → P (pause_at (advanced_by count r))
  pub wanted : (word : Location) (tokens : List Token) → P (record { step = step.Condition word tokens; after = after_line r })
  pub numbered : IsLiveHere r → (word : Location) (tokens : List Token) → P (record { step = step.LineNumber word tokens; after = after_line r })
  pub asked : IsLiveHere r → (word : Location) → sight_of (items_left r) ≡ sight.Directive d.Include word
      → P (outcome_at (outcome.Include (include_line word (after_word r))) (after_line r))
  pub defined : IsLiveHere r → (word : Location) (named : Named) → defined_on r.rules word (after_word r) ≡ Ok named
      → P (record { step = step.Defines (defined_in r.text named); after = after_line r })
  pub changed : IsLiveHere r → (name : Name) → P (pause_at (record (after_line r) { definitions = with_change r.definitions name None }))
  pub decision : IsLiveHere r → (holds : Bool) → P (pause_at (after_condition r holds))
  pub token : IsLiveHere r → (shown : Token) → StandsThere r shown → (count : ℕ) → 1 ≤ count → P (item_at shown (advanced_by count r))

module _ (P : Acted → Type 0) (r : SourceReader) (all : HoldsOfActs P r) where
  line_acts : (live : Bool) → is_live r.items r.truths r.position ≡ live → (block : Option BlockFacts) (directive : Directive) (word : Location)
      → sight_of (items_left r) ≡ sight.Directive directive word → P (perform_line (directive_move r.rules live block directive word (after_word r)) r)
  line_acts live here block directive word there =
      directive_holds (λ move. P (perform_line move r)) r.rules block word (after_word r) live directive (record {
        failing = λ fault. all.fault fault;
        refusing = λ fault. all.fault fault;
        unknown = λ dead its. all.nothing 2 (omega arith);
        passing = λ why. all.nothing _ (omega arith);
        items = λ its plain value is. all.token (here ∙ its) _ (inr (directive, there, is _ _)) _ (omega arith);
        asking = λ its is. all.asked (here ∙ its) word (there ∙ ap (λ x. sight.Directive x word) is);
        defining = λ its plain named is. all.defined (here ∙ its) word named is;
        undefining = λ its plain name. all.changed (here ∙ its) name;
        numbering = λ its plain tokens. all.numbered (here ∙ its) word tokens;
        testing = λ its opens holds name. all.decision (here ∙ its) _;
        deciding = λ why tokens. all.wanted word tokens;
      })

  -- it holds of the sight, whatever blocks are open,
  pub sight_acts : (live : Bool) → is_live r.items r.truths r.position ≡ live → (block : Option BlockFacts) (s : Sight) → sight_of (items_left r) ≡ s
      → P (perform (move_at r.rules live block s (items_left r)) r)
  sight_acts live here block sight.End there = all.end there
  sight_acts live here block (sight.Directive directive word) there = line_acts live here block directive word there
  sight_acts true here block (sight.Fault fault) there = all.fault fault
  sight_acts false here block (sight.Fault fault) there = dead_error r.rules.passes_dead_errors
    where
      dead_error : (passed : Bool) → P (perform (if passed then passing (error_length (items_left r)) else failing fault) r)
      dead_error true = all.nothing (error_length (items_left r)) (error_taken (items_left r))
      dead_error false = all.fault fault
  sight_acts live here block sight.NewLine there = all.nothing 1 (omega arith)
  sight_acts live here block sight.Lone there = all.nothing 2 (omega arith)
  sight_acts true here block (sight.Token token) there = all.token here token (inl there) 1 (omega arith)
  sight_acts true here block (sight.Hash location) there = all.fault _
  sight_acts true here block (sight.NoWord fault) there = all.fault fault
  sight_acts false here block (sight.NoWord fault) there = all.nothing 2 (omega arith)
  sight_acts false here block _ there = all.nothing 1 (omega arith)

  -- so it holds of all that stands in a source
  pub act_holds : P (act r)
  act_holds = sight_acts (is_live r.items r.truths r.position) refl (facts_here r) (sight_of (items_left r)) refl

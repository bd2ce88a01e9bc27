-- A directive takes at least as many items as it defines tokens, without its number sign and its word.
use Rattle.std.proofs.Common.{◌≡◌, ℕ, ◌≤◌, Bool, List, length, subst, arith, Option, Result, Ok, IfOk}
use Rattle.pp_lexer.specs.Lexed.{Seen}
use Rattle.pp_lexer.specs.declared.rules.Rules.{Rules}
use Rattle.pp_lexer.specs.declared.token.Location.{Location}
use Rattle.pp_model.specs.Places.{Fault}
use Rattle.pp_model.specs.DefineLines.{defined_on}
use Rattle.pp_model.specs.Lines.{line_length}
use Rattle.pp_model.specs.Moves.{BlockFacts, Effect, defines, Move, directive_move}
use Rattle.pp_model.specs.declared.definition.Named.{Named}
use Rattle.pp_model.specs.declared.directive.Directive.{Directive}
use Rattle.pp_model.proofs.source.MovesLemmas.{over_line, directive_holds}
use Rattle.pp_macros.proofs.work.BodyLemmas.{line_length_least}
use Rattle.pp_macros.proofs.work.DefinedBodyLemmas.{defined_least}

-- how many tokens an effect defines
abbrev pub effect_adds : Effect → ℕ
effect_adds (defines named) = length named.definition.body
effect_adds _ = 0

-- a directive's move, which takes its number sign and its word and so many items more
pub record IsWithin (move : Move) (count : ℕ) : Type 0 where
  pub adds : effect_adds move.effect ≤ move.taken
  pub taken : move.taken ≤ count

module _ (rules : Rules) (word : Location) (after : List Seen) where
  line_within : (effect : Effect) → effect_adds effect ≤ 0 → IsWithin (over_line effect after) (length after)
  line_within effect few = record { adds = omega (arith, few); taken = line_length_least after }

  define_within : (named : Named) → defined_on rules word after ≡ Ok named → IsWithin (over_line (defines named) after) (length after)
  define_within named e =
      let low : length named.definition.body ≤ line_length after =
      subst (λ (r : Result Named Fault). IfOk r (λ n. length n.definition.body ≤ line_length after)) e (defined_least rules word after) in
      record { adds = omega (arith, low); taken = line_length_least after }

  pub directive_within : (live : Bool) (block : Option BlockFacts) (directive : Directive)
      → IsWithin (directive_move rules live block directive word after) (length after)
  directive_within live block directive =
      directive_holds (λ move. IsWithin move (length after)) rules block word after live directive (record {
        failing = λ fault. record { adds = omega arith; taken = omega arith };
        refusing = λ fault. line_within _ (omega arith);
        unknown = λ live its. record { adds = omega arith; taken = omega arith };
        passing = λ why. line_within _ (omega arith);
        items = λ live its value is. line_within _ (omega arith);
        asking = λ live its. line_within _ (omega arith);
        defining = λ live its. define_within;
        undefining = λ live its name. line_within _ (omega arith);
        numbering = λ live its tokens. line_within _ (omega arith);
        testing = λ live its holds name. line_within _ (omega arith);
        deciding = λ why tokens. line_within _ (omega arith);
      })

-- The tokens that come one after another in a state.
use Rattle.std.proofs.Common.{◌≡◌, ◌∙◌, sym, List, [], ◌∷◌, ◌++◌, refl, ap, subst}
use Rattle.pp_lexer.specs.declared.token.Token.{Token}
use Rattle.pp_lexer.specs.declared.rules.Rules.{Rules}
use Rattle.pp_model.specs.Painting.{item_of}
use Rattle.pp_model.specs.Run.{Call, next}
use Rattle.pp_model.specs.RunToEnd.{RunsToEnd, given}
use Rattle.pp_model.specs.declared.call.Reply.{Reply}
use Rattle.pp_model.specs.declared.call.Reply.TheVariants as reply
use Rattle.pp_model.specs.declared.outcome.Outcome.{Outcome}
use Rattle.pp_model.specs.declared.outcome.Outcome.TheVariants as outcome
use Rattle.pp_model.specs.Emitting.{answers_at, expansion_limit}
use Rattle.pp_model.specs.ExpansionLaws.{OneItem}
use Rattle.pp_model.proofs.calls.LevelLemmas.{one_answer, one_item_at}
use Rattle.pp_model.proofs.onward.StepLemmas.{onward_reads_one}
use Rattle.pp_rs.specs.Comes.{State, source_rules, Comes, Gives, nothing, first}

one_taken : OneItem source_rules (answers_at expansion_limit)
one_taken = one_item_at source_rules (onward_reads_one (answers_at expansion_limit) (one_answer expansion_limit)) expansion_limit

-- one thing comes next
pub one_comes : (x y : Outcome) (e f g : State) → Comes e x f → Comes e y g → (x ≡ y) × (f ≡ g)
one_comes x y e f g a b =
    let same = one_taken a.taken b.taken e f g a.emits b.emits in
    (a.is ∙ ap item_of same.0 ∙ sym b.is, same.1)

pub gives_nothing : (e : State) → Gives e [] e
gives_nothing e = nothing [] e e refl refl

-- one more token
pub gives_more : (tokens : List Token) (token : Token) (e f g : State) → Gives e tokens f → Comes f (outcome.Token token) g → Gives e (tokens ++ (token ∷ [])) g
gives_more tokens token e f g (nothing ts e1 f1 p q) comes =
    first token [] (tokens ++ (token ∷ [])) e g g (subst (λ s. Comes s (outcome.Token token) g) q comes) (gives_nothing g) (ap (λ ts. ts ++ (token ∷ [])) p)
gives_more tokens token e f g (first t rest ts e1 m f1 c more p) comes =
    first t (rest ++ (token ∷ [])) (tokens ++ (token ∷ [])) e m g c (gives_more rest token m f g more comes) (ap (λ ts. ts ++ (token ∷ [])) p)

-- what comes next, and then the replies to other calls
pub given_run : (rules : Rules) (o : Outcome) (e f : State) (calls : List Call) (rest : List Reply) → Comes e o f
    → RunsToEnd (answers_at expansion_limit) rules f calls rest → RunsToEnd (answers_at expansion_limit) rules e (next ∷ calls) (reply.Given o ∷ rest)
given_run rules o e f calls rest comes run =
    given comes.taken e f calls rest (reply.Given o ∷ rest) comes.emits run (ap (λ x. reply.Given x ∷ rest) comes.is)

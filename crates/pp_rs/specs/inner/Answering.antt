-- The replies to calls, one after another. No contract of a public call cites this.
use Rattle.std.specs.Prelude.{◌≡◌, false, List, ◌∷◌}
use Rattle.pp_lexer.specs.declared.rules.Rules.{Rules}
use Rattle.pp_model.specs.Emitting.{answers_at, expansion_limit}
use Rattle.pp_model.specs.Run.{Call}
use Rattle.pp_model.specs.RunToEnd.{RunsToEnd}
use Rattle.pp_model.specs.declared.call.Reply.{Reply}
use Rattle.pp_rs.specs.Comes.{State}
use Rattle.pp_rs.specs.Kept.{Preprocessing, Stands, is_spent, rules_of}

-- the replies to the calls in this state, by these rules
abbrev pub RunFrom : Rules → State → List Call → List Reply → Type 0
RunFrom rules state calls replies = RunsToEnd (answers_at expansion_limit) rules state calls replies

-- What one call replies in each state that the preprocessor stood for. It then stands for a state: the replies to all
-- later calls from there come after this one.
pub record IsAnswered (old : Preprocessing) (call : Call) (answer : Reply) (new : Preprocessing) : Type 0 where
  pub unspent : is_spent new ≡ false
  pub rules : rules_of new ≡ rules_of old
  pub leads : (state : State) → Stands old state
      → (after : State) × Stands new after
      × ((calls : List Call) (rest : List Reply) → RunFrom (rules_of old) after calls rest
      → RunFrom (rules_of old) state (call ∷ calls) (answer ∷ rest))

-- the replies to a list of calls in each state that the preprocessor stood for
abbrev pub AreReplies : Preprocessing → List Call → List Reply → Type 0
AreReplies old calls replies = (state : State) → Stands old state → RunFrom (rules_of old) state calls replies

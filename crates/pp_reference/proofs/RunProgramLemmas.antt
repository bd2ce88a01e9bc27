-- What the plain program's replies come to.
use Rattle.std.proofs.Common.{All, arith, suc, length, ◌≡◌, refl, ap, subst, false, ℕ, List, [], ◌∷◌, map, Result, Ok, Err}
use Rattle.std.specs.Str.{chars}
use Rattle.pp_lexer.specs.Lexed.{Seen}
use Rattle.pp_lexer.specs.declared.token.Token.{Token}
use Rattle.pp_lexer.specs.declared.rules.Rules.{Rules}
use Rattle.pp_model.specs.Reading.{Expander}
use Rattle.pp_model.specs.Calls.{Answers}
use Rattle.pp_reference.specs.inner.Halting.{Meets}
use Rattle.pp_model.specs.SourceReader.{is_full}
use Rattle.pp_model.specs.Run.{Call, add_define, include, items_by, content_tokens, call_of, HasRoom, with_added, with_included}
use Rattle.pp_model.specs.Onward.{Onward}
use Rattle.pp_model.specs.RunToEnd as run
use Rattle.pp_model.specs.RunToEnd.{RunsToEnd, changed_by}
use Rattle.pp_reference.specs.inner.SeenSource as by
use Rattle.pp_reference.specs.inner.SeenSource.{Replying, RefusedBy}
use Rattle.pp_model.specs.declared.call.Call.{Call as Called}
use Rattle.pp_model.specs.declared.call.Reply.{Reply}
use Rattle.pp_model.specs.declared.call.Reply.TheVariants as reply
use Rattle.pp_reference.specs.declared.stop.Halt.{Halt}
use Rattle.pp_reference.specs.declared.stop.Halt.TheVariants as halt

pub refused_reply : (A : Answers) (rules : Rules) (name content : List ℕ) (body : Result (List Token) Halt) (h : Halt) (e : Expander Onward) (r : Reply)
    → Meets body (content_tokens (items_by rules content)) → body ≡ Err h → RefusedBy h r → Replying A rules e (add_define name content) r e
refused_reply A rules name content body (halt.Fault fault) e r meets is reported =
    by.refused name content fault e e r (subst (λ b. Meets b (content_tokens (items_by rules content))) is meets) reported refl
refused_reply A rules name content body (halt.Stop stop) e r meets is reported = absurd reported

pub added_reply : (A : Answers) (rules : Rules) (name content : List ℕ) (body : Result (List Token) Halt) (tokens : List Token) (e f : Expander Onward)
    → Meets body (content_tokens (items_by rules content)) → body ≡ Ok tokens → f ≡ changed_by (with_added (chars name) tokens) e
    → Replying A rules e (add_define name content) reply.Added f
added_reply A rules name content body tokens e f meets is after =
    by.added name content tokens e f reply.Added (subst (λ b. Meets b (content_tokens (items_by rules content))) is meets) refl after

pub included_reply : (A : Answers) (rules : Rules) (text : List ℕ) (items : List Seen) (e f : Expander Onward)
    → is_full e.reader.reader ≡ false → items ≡ items_by rules text → f ≡ changed_by (with_included items) e → Replying A rules e (include text) reply.Included f
included_reply A rules text items e f room is after = by.included text e f reply.Included room refl (rw is at after)

pub runs_none : (A : Answers) (rules : Rules) (e : Expander Onward) (calls : List Called) (replies : List Reply) → calls ≡ [] → replies ≡ []
    → RunsToEnd A rules e (map call_of calls) replies
runs_none A rules e calls replies none is = rw none (run.done e replies is)

-- the run goes on after a reply
pub runs_more : (A : Answers) (rules : Rules) (e f : Expander Onward) (call : Call) (calls : List Call) (r : Reply) (rest : List Reply) → Replying A rules e call r f
    → RunsToEnd A rules f calls rest → RunsToEnd A rules e (call ∷ calls) (r ∷ rest)
runs_more A rules e f call calls r rest (by.added name content tokens e1 f1 r1 c p q) later =
    run.added name content tokens e calls rest (r ∷ rest) c (rw q at later) (ap (λ (x : Reply). x ∷ rest) p)
runs_more A rules e f call calls r rest (by.refused name content fault e1 f1 r1 c p q) later =
    run.refused name content fault e calls rest (r ∷ rest) c (rw q at later) (ap (λ (x : Reply). x ∷ rest) p)
runs_more A rules e f call calls r rest (by.included text e1 f1 r1 c p q) later =
    run.included text e calls rest (r ∷ rest) c (rw q at later) (ap (λ (x : Reply). x ∷ rest) p)
runs_more A rules e f call calls r rest (by.too_deep text e1 f1 r1 c p q) later =
    run.too_deep text e calls rest (r ∷ rest) c (rw q at later) (ap (λ (x : Reply). x ∷ rest) p)
runs_more A rules e f call calls r rest (by.given x e1 f1 r1 emits p) later =
    run.given x e f calls rest (r ∷ rest) emits later (ap (λ (y : Reply). y ∷ rest) p)

pub all_after : (calls : List Called) (call : Called) (others : List Called) → calls ≡ call ∷ others → All HasRoom calls → All HasRoom others
all_after calls call others is all =
    let there : All HasRoom (call ∷ others) = rw is at all in
    λ k d h. there (suc k) d (omega (arith, h))

pub no_calls : (calls : List Called) → length calls ≡ 0 → calls ≡ []
no_calls [] h = refl
no_calls (call ∷ calls) h = absurd (omega (arith, h))

pub runs_on : (A : Answers) (rules : Rules) (e f : Expander Onward) (calls : List Called) (call : Called) (others : List Called)
    (r : Reply) (rest replies : List Reply) → calls ≡ call ∷ others → Replying A rules e (call_of call) r f
    → RunsToEnd A rules f (map call_of others) rest → replies ≡ r ∷ rest → RunsToEnd A rules e (map call_of calls) replies
runs_on A rules e f calls call others r rest replies cut replying later is =
    rw (cut, is) (runs_more A rules e f (call_of call) (map call_of others) r rest replying later)

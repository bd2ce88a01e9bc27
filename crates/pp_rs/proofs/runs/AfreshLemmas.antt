-- What follows for a text if it is known that it gives these tokens.
use Rattle.std.proofs.Common.{ℕ, All, ◌≡◌, ◌∙◌, List, [], ◌∷◌, map, refl, ap, sym, subst, Option, Some, None, Ok, Err, false, IsTrue}
use Rattle.std.specs.Prelude.{if◌then◌else◌}
use Rattle.std.specs.Str.{IsUtf8, encode_utf8_all, chars}
use Rattle.std.proofs.lemmas.Str.{encodes-chars}
use Rattle.pp_lexer.specs.Spelling.{values_of}
use Rattle.pp_lexer.specs.TokenValue.{is_ordinary}
use Rattle.pp_lexer.specs.declared.token.Token.{Token}
use Rattle.pp_model.specs.Emitting.{answers_at, expansion_limit}
use Rattle.pp_lexer.specs.Rules.{pp_rs}
use Rattle.pp_model.specs.RespellLaws.{calls_for, replies_with}
use Rattle.pp_model.specs.Painting.{item_of}
use Rattle.pp_model.specs.Run.{IsRunBy, items_of, ends_run}
use Rattle.pp_model.specs.RunToEnd.{RunsToEnd, done, given, to_first_error}
use Rattle.pp_model.specs.declared.call.Reply.{Reply}
use Rattle.pp_model.specs.declared.call.Reply.TheVariants as reply
use Rattle.pp_model.proofs.runs.RunLemmas.{one_run}
use Rattle.pp_model.proofs.onward.RunLemmas.{a_run_to_end}
use Rattle.pp_model.proofs.onward.RunsBeginLemmas.{run_to_end_begins}
use Rattle.pp_model.specs.declared.outcome.Outcome.TheVariants as outcome
use Rattle.pp_model.proofs.respelling.RespellLemmas.{runs_read_afresh}
use Rattle.pp_macros.specs.Item.{Item}
use Rattle.pp_rs.specs.Afresh.{IsOutput, AreReadAfresh, text_of}
use Rattle.pp_lexer.specs.declared.token.Location.{Location}
use Rattle.pp_lexer.specs.declared.rules.Rules.{Rules}
use Rattle.pp_rs.specs.Preprocessing.{outcome_of}
use Rattle.pp_rs.specs.Collecting.{ItemsCome, AreItemsFrom, AreItemsOf}
use Rattle.pp_rs.specs.Comes.{State, start, Comes}
use Rattle.pp_rs.specs.Kept.{Preprocessing, Stands, is_spent, rules_of}
use Rattle.pp_rs.proofs.runs.ComesLemmas.{one_comes, given_run}
use Rattle.pp_rs.proofs.runs.ItemValuesLemmas.{HaveValues, values_are, tokens_are}

-- from the state these tokens come, and then the end
abbrev RunsThrough : State → List Token → Type 0
RunsThrough e tokens = RunsToEnd (answers_at expansion_limit) pp_rs e (calls_for tokens) (replies_with tokens)

end_comes : (e : State) → RunsThrough e [] → (f : State) × Comes e outcome.End f
end_comes e (given x e1 f calls rest replies emits more is) =
    let same : outcome.End ≡ item_of x = cc in
    (f, record { taken = x; emits = emits; is = same })

record Follows (e : State) (token : Token) (tokens : List Token) : Type 0 where
  after : State
  comes : Comes e (outcome.Token token) after
  later : RunsThrough after tokens

token_comes : (e : State) (token : Token) (tokens : List Token) → RunsThrough e (token ∷ tokens) → Follows e token tokens
token_comes e token tokens (given x e1 f calls rest replies emits more is) =
    let same : outcome.Token token ≡ item_of x = cc in
    let left : rest ≡ replies_with tokens = cc in
    record {
      after = f;
      comes = record { taken = x; emits = emits; is = same };
      later = subst (λ rs. RunsToEnd (answers_at expansion_limit) pp_rs f (calls_for tokens) rs) left more;
    }

-- only a token's item is that token
token_item : (token : Token) (item : Item) (asked : Option Location) → outcome.Token token ≡ outcome_of (Some item) asked → item ≡ Ok token
token_item token (Ok other) asked e = let same : other ≡ token = cc in ap Ok same
token_item token (Err fault) (Some rest) e = cc
token_item token (Err fault) None e = cc

-- and no item is the end
no_end : (item : Item) (asked : Option Location) → outcome.End ≡ outcome_of (Some item) asked → ⊥
no_end (Ok token) asked e = cc
no_end (Err fault) (Some rest) e = cc
no_end (Err fault) None e = cc

-- the items of such a run are its tokens
tokens_alone : (all : List Token) (items : List Item) (e : State) → RunsThrough e all → AreItemsFrom pp_rs e items → items ≡ map Ok all
tokens_alone [] [] e run from = refl
tokens_alone (t ∷ all) [] e run (last, same, after, ends) =
    let h = token_comes e t all run in
    let end : Comes e outcome.End after = subst (λ s. Comes s outcome.End after) same ends in
    absurd (let bad = (one_comes _ _ e h.after after h.comes end).0 in cc)
tokens_alone [] (item ∷ items) e run (last, (asked, next, asks, comes, later), after, ends) =
    let end = end_comes e run in
    absurd (no_end item asked (one_comes _ _ e end.0 next end.1 comes).0)
tokens_alone (t ∷ all) (item ∷ items) e run (last, (asked, next, asks, comes, later), after, ends) =
    let h = token_comes e t all run in
    let same = one_comes _ _ e h.after next h.comes comes in
    let run_later = subst (λ s. RunsThrough s all) same.1 h.later in
    ap (λ i. i ∷ items) (token_item t item asked same.0) ∙ ap (λ is. Ok t ∷ is) (tokens_alone all items next run_later (last, later, after, ends))

-- items that are tokens, and then the end, are a run
run_of : (tokens : List Token) (e f g : State) → ItemsCome pp_rs e (map Ok tokens) f → Comes f outcome.End g → RunsThrough e tokens
run_of [] e f g same ends =
    let last : Comes e outcome.End g = subst (λ s. Comes s outcome.End g) same ends in
    given_run pp_rs outcome.End e g [] [] last (done g [] refl)
run_of (token ∷ tokens) e f g (asked, next, asks, comes, later) ends =
    given_run pp_rs (outcome.Token token) e next (calls_for tokens) (replies_with tokens) comes (run_of tokens next f g later ends)

-- none of these replies is an error item
whole_replies : (tokens : List Token) → to_first_error (replies_with tokens) ≡ replies_with tokens
whole_replies [] = refl
whole_replies (token ∷ tokens) = ap (λ rs. reply.Given (outcome.Token token) ∷ rs) (whole_replies tokens)

nothing_left : (replies : List Reply) → to_first_error replies ≡ [] → replies ≡ []
nothing_left [] e = refl
nothing_left (one ∷ rest) e = cc

-- replies that are these up to the first error item are these
no_error : (replies : List Reply) (tokens : List Token) → to_first_error replies ≡ replies_with tokens → replies ≡ replies_with tokens
no_error [] [] e = cc
no_error [] (token ∷ tokens) e = cc
no_error (one ∷ rest) [] e =
    let same : one ≡ reply.Given outcome.End = cc in
    let cut : (if ends_run one then [] else to_first_error rest) ≡ [] = cc in
    let left : to_first_error rest ≡ [] = sym (ap (λ last. if last then [] else to_first_error rest) (ap ends_run same)) ∙ cut in
    ap (λ r. r ∷ rest) same ∙ ap (λ rs. reply.Given outcome.End ∷ rs) (nothing_left rest left)
no_error (one ∷ rest) (token ∷ tokens) e =
    let same : one ≡ reply.Given (outcome.Token token) = cc in
    let cut : (if ends_run one then [] else to_first_error rest) ≡ replies_with tokens = cc in
    let left : to_first_error rest ≡ replies_with tokens = sym (ap (λ last. if last then [] else to_first_error rest) (ap ends_run same)) ∙ cut in
    ap (λ r. r ∷ rest) same ∙ ap (λ rs. reply.Given (outcome.Token token) ∷ rs) (no_error rest tokens left)

-- a run of a text that has no error is its run to the end
abbrev pub start_of : List ℕ → State
start_of text = start (items_of text)

through : (text : List ℕ) (tokens : List Token) → IsRunBy pp_rs text (calls_for tokens) (replies_with tokens) → RunsThrough (start_of text) tokens
through text tokens run =
    let (replies, whole) = a_run_to_end pp_rs text (calls_for tokens) in
    let same : to_first_error replies ≡ replies_with tokens =
    one_run pp_rs text (calls_for tokens) (to_first_error replies) (replies_with tokens)
    (run_to_end_begins pp_rs text (calls_for tokens) replies whole) run in
    subst (λ rs. RunsToEnd (answers_at expansion_limit) pp_rs (start_of text) (calls_for tokens) rs) (no_error replies tokens same) whole

up_to_error : (text : List ℕ) (tokens : List Token) → RunsThrough (start_of text) tokens → IsRunBy pp_rs text (calls_for tokens) (replies_with tokens)
up_to_error text tokens run =
    subst (λ rs. IsRunBy pp_rs text (calls_for tokens) rs) (whole_replies tokens)
    (run_to_end_begins pp_rs text (calls_for tokens) (replies_with tokens) run)

-- the bytes of a text of these characters
pub bytes_are : (bytes characters : List ℕ) → IsUtf8 bytes → chars bytes ≡ characters → bytes ≡ encode_utf8_all characters
bytes_are bytes characters u e = sym (encodes-chars bytes u) ∙ ap encode_utf8_all e

-- these items come from the start of a text
abbrev pub AreItemsOfText : List ℕ → List Item → Type 0
AreItemsOfText text items = AreItemsFrom pp_rs (start_of text) items

-- they do where a preprocessor that stands for its start gives them
pub text_gives : (pp : Preprocessing) (items : List Item) (text : List ℕ) → is_spent pp ≡ false → rules_of pp ≡ pp_rs
    → Stands pp (start_of text) → AreItemsOf pp items → AreItemsOfText text items
text_gives pp items text unspent usual stands all =
    let from : (state : State) → Stands pp state → AreItemsFrom (rules_of pp) state items = rw unspent at all in
    subst (λ (rules : Rules). AreItemsFrom rules (start_of text) items) usual (from _ stands)

-- Where the items of the tokens' text have the tokens' values, the tokens are read afresh.
pub read_afresh : (tokens : List Token) (items : List Item) → AreItemsOfText (text_of tokens) items → HaveValues items (values_of tokens)
    → AreReadAfresh tokens
read_afresh tokens items from same =
    let these = tokens_are items (values_of tokens) same in
    let all = subst (λ is. AreItemsOfText (text_of tokens) is) these.is from in
    record {
      tokens = these.tokens;
      same = these.are;
      run = up_to_error (text_of tokens) these.tokens (run_of these.tokens (start_of (text_of tokens)) all.0 all.2 all.1 all.3);
    }

abbrev AreOrdinary : List Token → Type 0
AreOrdinary tokens = All (λ token. IsTrue (is_ordinary token.value)) tokens

-- plain output is read afresh
pub output_is_read : (tokens : List Token) → IsOutput tokens → AreOrdinary tokens → AreReadAfresh tokens
output_is_read tokens o plain =
    let given_plain = subst AreOrdinary (sym o.given) plain in
    subst AreReadAfresh o.given (runs_read_afresh expansion_limit pp_rs o.source o.calls o.replies o.is_text o.contents o.run given_plain)

-- if tokens are read afresh, the items of their text have their values
pub items_of_read : (tokens : List Token) (items : List Item) → AreReadAfresh tokens → AreItemsOfText (text_of tokens) items
    → HaveValues items (values_of tokens)
items_of_read tokens items read from =
    let alone = tokens_alone read.tokens items (start_of (text_of tokens)) (through (text_of tokens) read.tokens read.run) from in
    rw alone (values_are read.tokens ∙ ap (λ values. map Ok values) read.same)

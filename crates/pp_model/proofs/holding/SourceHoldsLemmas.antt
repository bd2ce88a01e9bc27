-- What holds of each token among a source's items holds of each token that reading it gives, and of the bodies that it defines.
use Rattle.std.proofs.Common.{◌≡◌, ℕ, Bool, true, false, if◌then◌else◌, List, [], ◌∷◌, drop, zero, suc, sym, subst, Option, Some, None, inl, inr}
use Rattle.std.specs.Prelude.{⊤, IfOk, IfSome, Result, Ok, Err}
use Rattle.std.specs.List.{AllByRecursion as Each}
use Rattle.pp_lexer.specs.Items.{Lexeme}
use Rattle.pp_lexer.specs.Lexed.{Seen}
use Rattle.pp_lexer.specs.TokenValue.{is_ordinary}
use Rattle.pp_lexer.specs.declared.lexer.item.Token.{Token as LexerToken}
use Rattle.pp_lexer.specs.declared.lexer.item.TokenValue.{TokenValue as LexerTokenValue}
use Rattle.pp_lexer.specs.declared.lexer.item.TokenValue.TheVariants.{Hash, NewLine, Ident as LexerIdent}
use Rattle.pp_lexer.specs.declared.token.Location.{Location}
use Rattle.pp_lexer.specs.declared.token.Token.{Token}
use Rattle.pp_model.specs.Places.{Fault}
use Rattle.pp_model.specs.Names.{Name, is_same_name}
use Rattle.pp_model.specs.Conversions.{identifier_of}
use Rattle.pp_model.specs.Definitions.{Definition, Definitions, with_change}
use Rattle.pp_model.specs.Calls.{Answers}
use Rattle.pp_model.specs.Lines.{first_token}
use Rattle.pp_model.specs.DefineLines.{defined_on}
use Rattle.pp_model.proofs.taking.NumberingLemmas.{text_number_is_short}
use Rattle.pp_model.specs.Sights.{sight_of, token_sight, named_directive}
use Rattle.pp_model.specs.inner.Sights.{item_sight, directive_sight}
use Rattle.pp_model.specs.Blocks.{Block}
use Rattle.pp_model.specs.SourceReader.{Suspended, SourceReader}
use Rattle.pp_model.specs.Acts.{Acted, leave, end_by, act}
use Rattle.pp_model.specs.inner.Acts.{items_left, after_word}
use Rattle.pp_model.specs.Reads.{Steps, Reads, here, later, source_reading}
use Rattle.pp_model.specs.declared.definition.Named.{Named}
use Rattle.pp_model.specs.Painting.{taken_of}
use Rattle.pp_model.specs.declared.outcome.Outcome.{Outcome}
use Rattle.pp_model.specs.declared.read.Taken.{Taken}
use Rattle.pp_model.specs.declared.outcome.Outcome.TheVariants as outcome
use Rattle.pp_model.specs.declared.sight.Sight.{Sight}
use Rattle.pp_model.specs.declared.sight.Sight.TheVariants as sight
use Rattle.pp_model.specs.declared.step.Step.{Step}
use Rattle.pp_model.specs.declared.step.Step.TheVariants as step
use Rattle.pp_model.proofs.source.ActsLemmas.{StandsThere, act_holds}
use Rattle.pp_model.proofs.holding.HoldingLemmas.{AreClosed, HoldInBodies, HoldsOfTaken}
use Rattle.pp_model.proofs.source.ReadsLemmas.{GivenBy, HoldsAfter, given_by, holds_after}
use Rattle.pp_model.proofs.holding.KeptTokensLemmas.{ReaderKeeps}
use Rattle.pp_model.proofs.holding.LineHoldsLemmas.{HoldsOfLexeme, HoldInItems, defined_holds}

-- what a source gives has it
abbrev pub HoldsOfOutcome : (Token → Type 0) → Outcome → Type 0
HoldsOfOutcome Q (outcome.Token token) = Q token
HoldsOfOutcome Q _ = ⊤

module _ (Q : Token → Type 0) (L : ℕ → Type 0) (closed : AreClosed Q L) where
  -- it holds of what stands at a place of the source: of a token, and of the line of a directive's word
  abbrev HoldsOfSight : Sight → Type 0
  HoldsOfSight (sight.Token token) = Q token
  HoldsOfSight (sight.Directive directive word) = L word.line
  HoldsOfSight _ = ⊤

  word_value : (token : LexerToken) (value : LexerTokenValue) → HoldsOfLexeme Q (Ok (record token { value = value }))
      → HoldsOfSight (named_directive (record token { value = value }) (identifier_of value))
  word_value token (LexerIdent name) h = closed.line _ h
  word_value token _ h = tt

  word_item : (item : Lexeme) → HoldsOfLexeme Q item → HoldsOfSight (directive_sight item)
  word_item (Ok token) h = word_value token token.value h
  word_item (Err fault) h = tt

  hash_sight : (at_start : Bool) (location : Location) (rest : List Seen) → HoldInItems Q rest
      → HoldsOfSight (if at_start then directive_sight (first_token location rest) else sight.Hash location)
  hash_sight false location rest all = tt
  hash_sight true location [] all = tt
  hash_sight true location (s ∷ rest) all = word_item s.item all.0

  sight_value : (token : LexerToken) (value : LexerTokenValue) (rest : List Seen) → HoldsOfLexeme Q (Ok (record token { value = value }))
      → HoldInItems Q rest → HoldsOfSight (token_sight (record token { value = value }) rest)
  sight_value token Hash rest h all = hash_sight token.start_of_line token.location rest all
  sight_value token NewLine rest h all = tt
  sight_value token _ rest h all = h

  sight_holds : (rest : List Seen) → HoldInItems Q rest → HoldsOfSight (sight_of rest)
  sight_holds [] all = tt
  sight_holds (s ∷ rest) all = of_item s.item all.0
    where
      of_item : (item : Lexeme) → HoldsOfLexeme Q item → HoldsOfSight (item_sight item rest)
      of_item (Ok token) h = sight_value token token.value rest h all.1
      of_item (Err fault) h = tt

  drop_holds : (n : ℕ) (items : List Seen) → HoldInItems Q items → HoldInItems Q (drop n items)
  drop_holds (suc n) (s ∷ rest) all = drop_holds n rest all.1
  drop_holds (suc n) [] all = tt
  drop_holds zero items all = all

  pub changed_holds : (definitions : Definitions) (name : Name) (new : Option Definition) → HoldInBodies Q definitions
      → IfSome new (λ definition. Each Q definition.body) → HoldInBodies Q (with_change definitions name new)
  changed_holds definitions name new all q other definition e = go (is_same_name other name) e
    where
      go : (b : Bool) → (if b then new else definitions other) ≡ Some definition → Each Q definition.body
      go true e = subst (λ (x : Option Definition). IfSome x (λ d. Each Q d.body)) e q
      go false e = all other definition e

  -- it holds of the items of the texts around
  abbrev pub HoldAround : List Suspended → Type 0
  HoldAround [] = ⊤
  HoldAround (outer ∷ around) = HoldInItems Q outer.items × HoldAround around

  -- it holds of a text's items, of the bodies of what is defined, and of the texts around
  abbrev pub HoldsOfReader : SourceReader → Type 0
  HoldsOfReader r = HoldInItems Q r.items × HoldInBodies Q r.definitions × HoldAround r.around

  -- it holds of what is given, and of a body that is defined
  abbrev HoldsOfStep : Step → Type 0
  HoldsOfStep (step.Given o) = HoldsOfOutcome Q o
  HoldsOfStep (step.Defines named) = Each Q named.definition.body
  HoldsOfStep _ = ⊤

  abbrev HoldsOfAct : Acted → Type 0
  HoldsOfAct a = HoldsOfStep a.step × HoldsOfReader a.after

  -- an item that holds a directive's tokens is one of these where its line is
  abbrev pub DirectiveItemsHold : Type 0
  DirectiveItemsHold = (token : Token) → is_ordinary token.value ≡ false → L token.location.line → Q token

  unless_given : (text : ℕ) (o : Option Taken) → GivenBy text step.Passed o → IfSome o (HoldsOfTaken Q)
  unless_given text o (inl n) = rw n tt
  unless_given text o (inr n) = rw n.1 tt

  module _ (items_hold : DirectiveItemsHold) (r : SourceReader) (h : HoldsOfReader r) where
    left_hold : HoldInItems Q (items_left r)
    left_hold = drop_holds r.position r.items h.0

    line_defines : (word : Location) (said : Named) → defined_on r.rules word (after_word r) ≡ Ok said → Each Q said.definition.body
    line_defines word said e =
        subst (λ (line : Result Named Fault). IfOk line (λ named. Each Q named.definition.body)) e
        (defined_holds Q r.rules word (after_word r) (drop_holds 2 (items_left r) left_hold))

    shown_holds : (token : Token) → StandsThere r token → Q token
    shown_holds token (inl there) = subst HoldsOfSight there (sight_holds (items_left r) left_hold)
    shown_holds token (inr (directive, there, plain)) = items_hold token plain (subst HoldsOfSight there (sight_holds (items_left r) left_hold))

    leave_holds : (around : List Suspended) → HoldAround around → HoldsOfAct (leave around r)
    leave_holds [] all = (tt, h)
    leave_holds (outer ∷ around) all = (tt, (all.0, h.1, all.1))

    end : (block : Option Block) → HoldsOfAct (end_by block r)
    end (Some block) = (tt, h)
    end None = leave_holds r.around h.2

    acted : HoldsOfAct (act r)
    acted = act_holds HoldsOfAct r (record {
      end = λ there. end _;
      fault = λ found. (tt, h);
      nothing = λ count least. (tt, h);
      wanted = λ word tokens. (tt, h);
      numbered = λ its word tokens. (tt, h);
      defined = λ its word named is. (line_defines word named is, h);
      changed = λ its name. (tt, (h.0, changed_holds r.definitions name None h.1 tt, h.2));
      asked = λ its word is. (tt, h);
      decision = λ its holds. (tt, h);
      token = λ its shown stands count least. (shown_holds shown stands, h);
    })

    unpainted_holds : (o : Outcome) → HoldsOfOutcome Q o → HoldsOfTaken Q (taken_of r.text o)
    unpainted_holds (outcome.Token token) q = q
    unpainted_holds _ q = tt

    outcome_given : (did : Step) (o : Option Taken) → HoldsOfStep did → GivenBy r.text did o → IfSome o (HoldsOfTaken Q)
    outcome_given (step.Given x) o k g = subst (λ (y : Option Taken). IfSome y (HoldsOfTaken Q)) (sym g) (unpainted_holds x k)
    outcome_given _ o k g = unless_given r.text o g

    reader_after : (did : Step) (after : SourceReader) → HoldsOfStep did → HoldsOfReader after → HoldsAfter HoldsOfReader r did after
    reader_after (step.Defines named) after body k = (k, (k.0, changed_holds after.definitions named.name (Some named.definition) k.1 body, k.2))
    reader_after (step.Condition word tokens) after body k = (h, λ holds. k)
    reader_after (step.LineNumber word tokens) after body k = (h, λ n. k)
    reader_after _ after body k = k

  module _ (items_hold : DirectiveItemsHold) (A : Answers) where
    step_holds : (o : Option Taken) (r t : SourceReader) → Steps A r o t → HoldsOfReader r → IfSome o (HoldsOfTaken Q) × HoldsOfReader t
    step_holds o r t s h =
        let done = acted items_hold r h in (
          outcome_given items_hold r h (act r).step o done.0 (given_by A r o t (act r).step (act r).after s),
          holds_after A r o t HoldsOfReader (act r).step (act r).after (reader_after items_hold r h (act r).step (act r).after done.0 done.1) s,
        )

    reading_holds : (r t : SourceReader) (x : Taken) → Reads A r x t → HoldsOfReader r → HoldsOfTaken Q x × HoldsOfReader t
    reading_holds r t x (here x1 r1 t1 s) h = step_holds (Some x) r t s h
    reading_holds r t x (later x1 r1 s t1 first more) h = reading_holds s t x more (step_holds None r s first h).1

    -- so reading a source keeps it
    pub source_keeps : ReaderKeeps Q L (source_reading A) HoldsOfReader
    source_keeps = record {
      reads = reading_holds;
      visible = λ r h. h.1;
      shown = λ r line number e. text_number_is_short r.rules r.line_offset line number e;
    }

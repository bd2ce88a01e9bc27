-- The tokens of a line, read one after another.
use Rattle.std.proofs.Common.{◌≡◌, ℕ, ◌+◌, ◌≤◌, Bool, true, false, if◌then◌else◌, not, ◌&&◌, List, [], ◌∷◌, ◌++◌, length, drop, Option, Some, None, Result, Ok, Err, refl, sym, ◌∙◌, ◌⊎◌, ap, append_assoc, length-drop, suc, arith}
use Rattle.pp_lexer.specs.Entry.{Entry}
use Rattle.pp_lexer.specs.Items.{Lexeme}
use Rattle.pp_lexer.specs.Lexed.{Seen}
use Rattle.pp_lexer.specs.Preorder.{preorder}
use Rattle.pp_lexer.specs.declared.token.Token.{Token}
use Rattle.pp_model.specs.Places.{Fault, placed}
use Rattle.pp_model.specs.Conversions.{is_newline, conversion}
use Rattle.pp_model.specs.Faults.{is_shown}
use Rattle.pp_model.specs.Moves.{fails}
use Rattle.pp_model.specs.inner.Emitting.{token_before}
use Rattle.pp_lexer.specs.declared.rules.Rules.{Rules}
use Rattle.pp_lexer.specs.declared.token.PreprocessorError.TheVariants.{UnexpectedToken}
use Rattle.pp_lexer.specs.declared.token.TokenValue.TheVariants.{Ident}
use Rattle.pp_model.specs.DefineLines.{is_own_name, free_name}
use Rattle.pp_model.specs.declared.definition.Placed.{Placed}
use Rattle.pp_model.specs.Lines.{line_tokens, line_length, line_fault, ends_line}
use Rattle.pp_expression.specs.Answers.{◌>>=◌}
use Rattle.pp_macros.specs.inner.LineReading.{TakesItems, shown_on, shown_after, as_next, line_token, some_token, next_line_token, tokens_after, length_after, unless_fault, skipped_line, goes_on_after, line_goes_on, item_goes_on}
use Rattle.pp_macros.specs.inner.SourceLexed.{SourceLexed, unreported_at}
use Rattle.pp_macros.specs.declared.halt.Halt.{Halt}
use Rattle.pp_macros.specs.declared.halt.Halt.TheVariants as halt
use Rattle.pp_directives.specs.inner.LineEntries.{line_entries}
use Rattle.pp_directives.specs.inner.ReadingLines.{ReadsPart, ReadsNext, ReadsLine, ReadsTokens}
use Rattle.pp_directives.proofs.ShownLemmas.{fails_shown, mapped_shown, same_taken, end_taken, shown_then, shown_there}
use Rattle.pp_directives.proofs.FurtherLemmas.{GoesFurther, goes_then}
use Rattle.pp_directives.proofs.UnreportedLemmas.{reports_after}

-- tokens that were read, and then those of the rest
abbrev pub tokens_before : List Token → Result (List Token) Fault → Result (List Token) Fault
tokens_before tokens (Ok rest) = Ok (tokens ++ rest)
tokens_before tokens (Err fault) = Err fault

pub tokens_before-push : (tokens : List Token) (token : Token) (rest : Result (List Token) Fault)
    → tokens_before (tokens ++ token ∷ []) rest ≡ tokens_before tokens (token_before token rest)
tokens_before-push tokens token (Ok rest) = rw append_assoc refl
tokens_before-push tokens token (Err fault) = refl

drop_past : (n : ℕ) (s : Seen) (rest : List Seen) → drop (1 + n) (s ∷ rest) ≡ drop n rest
drop_past n s rest = let e : 1 + n ≡ suc n = omega arith in ap (λ k. drop k (s ∷ rest)) e

-- no more is left after some items
pub drop_fewer : (rest after : List Seen) (n : ℕ) → after ≡ drop n rest → length after ≤ length rest
drop_fewer rest after n e = omega (arith, ap length e, length-drop n rest)

-- a line after one of its tokens
module _ (s : Seen) (rest : List Seen) where
  tokens_by : (ends : Bool) (first : Result Token Fault)
      → (if ends then Ok [] else (first >>= λ token. token_before token (line_tokens rest))) ≡
      ((if ends then Ok None else (first >>= some_token)) >>= λ next. tokens_after next rest)
  tokens_by true first = refl
  tokens_by false (Ok token) = refl
  tokens_by false (Err fault) = refl

  place_by : (ends : Bool) (first : Result Token Fault) (next : Option Token) → (if ends then Ok None else (first >>= some_token)) ≡ Ok next
      → drop (if ends then 1 else 1 + line_length rest) (s ∷ rest) ≡ drop (length_after next rest) rest
  place_by true first next e = let is : next ≡ None = cc in rw is refl
  place_by false (Ok token) next e = let is : next ≡ Some token = cc in rw is (drop_past (line_length rest) s rest)
  place_by false (Err fault) next e = cc

tokens_after_item : (item : Lexeme) (had : Bool) (rest : List Seen)
    → line_tokens (record { item = item; had_comments = had } ∷ rest) ≡
    (next_line_token (record { item = item; had_comments = had } ∷ rest) >>= λ next. tokens_after next rest)
tokens_after_item (Err fault) had rest = refl
tokens_after_item (Ok token) had rest = tokens_by (record { item = Ok token; had_comments = had }) rest (is_newline token.value) (conversion token)

place_after_item : (item : Lexeme) (had : Bool) (rest : List Seen) (next : Option Token)
    → next_line_token (record { item = item; had_comments = had } ∷ rest) ≡ Ok next
    → drop (line_length (record { item = item; had_comments = had } ∷ rest)) (record { item = item; had_comments = had } ∷ rest) ≡ drop
    (length_after next rest) rest
place_after_item (Err fault) had rest next e = cc
place_after_item (Ok token) had rest next e = place_by (record { item = Ok token; had_comments = had }) rest (is_newline token.value) (conversion token) next e

-- a line's tokens are the next one, and those after it
pub line_tokens-next : (rest : List Seen) → line_tokens rest ≡ (next_line_token rest >>= λ next. tokens_after next (drop 1 rest))
line_tokens-next [] = refl
line_tokens-next (s ∷ rest) = tokens_after_item s.item s.had_comments rest

-- and the line ends where those after it end
pub line_place-next : (rest : List Seen) (next : Option Token) → next_line_token rest ≡ Ok next
    → drop (line_length rest) rest ≡ drop (length_after next (drop 1 rest)) (drop 1 rest)
line_place-next [] next e = let is : next ≡ None = cc in rw is refl
line_place-next (s ∷ rest) next e = place_after_item s.item s.had_comments rest next e

-- a token that is waiting counts as an item
abbrev pub wanted_items : Option Token → ℕ
wanted_items None = 0
wanted_items (Some token) = 1

-- one token more of a line is read
module _ (rest after : List Seen) (next : Option Token) (e : next_line_token rest ≡ Ok next) (d : after ≡ drop 1 rest) where
  pub whole_more : (tokens new : List Token) (token : Token) (whole : Result (List Token) Fault)
      → tokens_before tokens (tokens_after (Some token) rest) ≡ whole → new ≡ tokens ++ token ∷ [] → tokens_before new (tokens_after next after) ≡ whole
  whole_more tokens new token whole h n =
      let goes_on : line_tokens rest ≡ tokens_after next (drop 1 rest) = line_tokens-next rest ∙ ap (λ r. r >>= λ more. tokens_after more (drop 1 rest)) e in
      rw (n, d) (tokens_before-push tokens token (tokens_after next (drop 1 rest))
      ∙ ap (λ more. tokens_before tokens (token_before token more)) (sym goes_on) ∙ h)

  pub place_more : (end : List Seen) → drop (line_length rest) rest ≡ end → drop (length_after next after) after ≡ end
  place_more end h = rw d (sym (line_place-next rest next e) ∙ h)

-- a line that is skipped is that after its first token, where it goes on
skips_by : (ends : Bool) (later : Option Fault) → ◌≡◌ {A = Result Bool Fault} (Ok (not ends)) (Ok true)
    → ◌≡◌ {A = Result (Unit {0}) Fault} (unless_fault (if ends then None else later) (Ok tt)) (unless_fault later (Ok tt))
skips_by true later e = cc
skips_by false later e = refl

skip_place_by : (s : Seen) (rest : List Seen) (ends : Bool) → ◌≡◌ {A = Result Bool Fault} (Ok (not ends)) (Ok true)
    → drop (if ends then 1 else 1 + line_length rest) (s ∷ rest) ≡ drop (line_length rest) rest
skip_place_by s rest true e = cc
skip_place_by s rest false e = drop_past (line_length rest) s rest

skips_item : (item : Lexeme) (had : Bool) (rest : List Seen) → goes_on_after item ≡ Ok true
    → skipped_line (record { item = item; had_comments = had } ∷ rest) ≡ skipped_line rest
skips_item (Err fault) had rest e = cc
skips_item (Ok token) had rest e = skips_by (is_newline token.value) (line_fault rest) e

skip_place_item : (item : Lexeme) (had : Bool) (rest : List Seen) → goes_on_after item ≡ Ok true
    → drop (line_length (record { item = item; had_comments = had } ∷ rest)) (record { item = item; had_comments = had } ∷ rest) ≡ drop (line_length rest) rest
skip_place_item (Err fault) had rest e = cc
skip_place_item (Ok token) had rest e = skip_place_by (record { item = Ok token; had_comments = had }) rest (is_newline token.value) e

pub skipped_more : (rest after : List Seen) → line_goes_on rest ≡ Ok true → after ≡ drop 1 rest → skipped_line after ≡ skipped_line rest
skipped_more [] after e d = cc
skipped_more (s ∷ rest) after e d = rw d (sym (skips_item s.item s.had_comments rest e))

pub skipped_place : (rest after : List Seen) → line_goes_on rest ≡ Ok true → after ≡ drop 1 rest → drop (line_length after) after ≡ drop (line_length rest) rest
skipped_place [] after e d = cc
skipped_place (s ∷ rest) after e d = rw d (sym (skip_place_item s.item s.had_comments rest e))

-- a part of a line is taken after another
pub takes_after : {A : Type 0} (result : Result A Halt) (more total more_shown shown : ℕ) (old mid new : SourceLexed)
    → TakesItems more more_shown mid result new → GoesFurther old mid → drop total old.rest ≡ drop more mid.rest
    → drop shown old.rest ≡ drop more_shown mid.rest
    → TakesItems total shown old result new
takes_after (Ok value) more total more_shown shown old mid new t g e f =
    record { rest = t.rest ∙ sym e; further = goes_then old mid new g t.further; spent = t.spent }
takes_after (Err (halt.Fault fault)) more total more_shown shown old mid new t g e f =
    record { rest = t.rest ∙ sym f; further = goes_then old mid new g t.further; spent = t.spent }
takes_after (Err halt.OutOfMemory) more total more_shown shown old mid new t g e f = t

-- a fault of the line is shown by the items that show one of those after the next token
abbrev line_after : Result (Option Token) Fault → List Seen → Result (List Token) Fault
line_after found items = found >>= λ next. tokens_after next items

token_goes_on : (token : Token) (s : Seen) (items : List Seen) → next_line_token (s ∷ items) ≡ Ok (Some token) → ends_line s.item ≡ false
token_goes_on token s items e = go s.item e
  where
    by : (newline : Bool) (first : Result Token Fault)
        → ◌≡◌ {A = Result (Option Token) Fault} (if newline then Ok None else (first >>= some_token)) (Ok (Some token)) → newline ≡ false
    by true first e = cc
    by false first e = refl

    go : (item : Lexeme) → (as_next item >>= line_token) ≡ Ok (Some token) → ends_line item ≡ false
    go (Ok found) e = by (is_newline found.value) (conversion found) e
    go (Err fault) e = cc

none_ends : (s : Seen) (items : List Seen) → next_line_token (s ∷ items) ≡ Ok None → ends_line s.item ≡ true
none_ends s items e = go s.item e
  where
    by : (newline : Bool) (first : Result Token Fault)
        → ◌≡◌ {A = Result (Option Token) Fault} (if newline then Ok None else (first >>= some_token)) (Ok None) → newline ≡ true
    by true first e = refl
    by false (Ok token) e = cc
    by false (Err fault) e = cc

    go : (item : Lexeme) → (as_next item >>= line_token) ≡ Ok None → ends_line item ≡ true
    go (Ok found) e = by (is_newline found.value) (conversion found) e
    go (Err fault) e = cc

-- a token before others hides no fault
before_shown : (token : Token) (later : Result (List Token) Fault) → fails_shown (token_before token later) ≡ fails_shown later
before_shown token (Ok tokens) = refl
before_shown token (Err fault) = refl

pub line_shown-next : (rest : List Seen) (next : Option Token) → next_line_token rest ≡ Ok next
    → drop (shown_on line_tokens rest) rest ≡ drop (shown_after next (drop 1 rest)) (drop 1 rest)
line_shown-next rest (Some token) e =
    shown_then line_tokens next_line_token line_after line_tokens-next (λ s items. refl) rest (Ok (Some token)) e (token_goes_on token) refl
line_shown-next [] None e = refl
line_shown-next (s ∷ rest) None e = end_taken line_tokens s rest (none_ends s rest e)

pub line_shown-here : (rest after : List Seen) (fault : Fault) → next_line_token rest ≡ Err fault → after ≡ drop 1 rest
    → (is_shown (fails fault) ≡ true) ⊎ (after ≡ []) → after ≡ drop (shown_on line_tokens rest) rest
line_shown-here rest after fault e d h =
    shown_there line_tokens next_line_token line_after line_tokens-next (λ s items. refl) rest after (Err fault) e d h

-- the same after a token that was read before
pub tokens_shown : (first : Option Token) (token : Token) (rest : List Seen) → first ≡ Some token
    → drop (shown_on line_tokens rest) rest ≡ drop (shown_after first rest) rest
tokens_shown first token rest some = rw some
    (same_taken line_tokens (tokens_after (Some token)) (λ items. sym (before_shown token (line_tokens items))) rest)

-- one token more of a line is read
pub shown_more : (first next : Option Token) (token : Token) (rest after : List Seen) → next_line_token rest ≡ Ok next → after ≡ drop 1 rest
    → first ≡ Some token → drop (shown_after next after) after ≡ drop (shown_after first rest) rest
shown_more first next token rest after e d some = rw d (sym (line_shown-next rest next e) ∙ tokens_shown first token rest some)

-- the next token of a line has a fault
pub line_fails : {A B : Type 0} (shows : A → List Token) (shown : B → Option Token) (h : Halt) (old new : SourceLexed)
    → ReadsNext shown next_line_token old (Err h) new → ReadsLine shows line_tokens old (Err h) new
line_fails shows shown (halt.Fault fault) old new p = record {
  is = line_tokens-next old.rest ∙ ap (λ r. r >>= λ next. tokens_after next (drop 1 old.rest)) p.is;
  takes = record {
    rest = line_shown-here old.rest new.rest fault p.is p.takes.rest p.fault;
    further = p.takes.further;
    spent = p.takes.spent;
  };
  fault = p.fault;
  errors = p.errors;
}
line_fails shows shown halt.OutOfMemory old new p = record { is = tt; takes = tt; fault = tt; errors = tt }

-- and tokens before it were read
before_fails : (tokens : List Token) (token : Token) (line : Result (List Token) Fault) (fault : Fault) → line ≡ Err fault
    → tokens_before tokens (token_before token line) ≡ Err fault
before_fails tokens token line fault e = ap (λ (r : Result (List Token) Fault). tokens_before tokens (token_before token r)) e

pub more_fails : {A B : Type 0} (shows : A → List Token) (read : B → Option Token) (h : Halt) (first next : Option Token) (token : Token) (start old new : SourceLexed) (tokens : List Token)
    → next ≡ Some token → tokens_before tokens (tokens_after next old.rest) ≡ tokens_after first start.rest
    → drop (shown_after next old.rest) old.rest ≡ drop (shown_after first start.rest) start.rest → GoesFurther start old
    → unreported_at old ≡ unreported_at start
    → ReadsNext read next_line_token old (Err h) new
    → ReadsTokens shows first start (Err h) new
more_fails shows read (halt.Fault fault) first next token start old new tokens some whole shown went same p = record {
  reads = record {
    is = sym whole ∙ ap (λ (n : Option Token). tokens_before tokens (tokens_after n old.rest)) some
        ∙ before_fails tokens token (line_tokens old.rest) fault
        (line_tokens-next old.rest ∙ ap (λ r. r >>= λ n. tokens_after n (drop 1 old.rest)) p.is);
    takes = record {
      rest = line_shown-here old.rest new.rest fault p.is p.takes.rest p.fault ∙ tokens_shown next token old.rest some ∙ shown;
      further = goes_then start old new went p.takes.further;
      spent = p.takes.spent;
    };
    fault = p.fault;
    errors = reports_after false {A = Unit {0}} (Err (halt.Fault fault)) (unreported_at start) (unreported_at old) (unreported_at new) same p.errors;
  };
  comments = tt;
  ordinary = tt;
}
more_fails shows read halt.OutOfMemory first next token start old new tokens some whole shown went same p =
    record { reads = record { is = tt; takes = tt; fault = tt; errors = tt }; comments = tt; ordinary = tt }

-- the tokens of a line are read: the next one, and those after it
pub reads_line : {A B : Type 0} (shows : A → List Token) (read : B → Option Token) (token : B) (result : Result A Halt) (old mid new : SourceLexed)
    → ReadsNext read next_line_token old (Ok token) mid
    → ReadsPart false shows (tokens_after (read token) mid.rest) (length_after (read token) mid.rest) (shown_after (read token) mid.rest) mid result new
    → ReadsLine shows line_tokens old result new
reads_line shows read token result old mid new next more =
    let first = read token in
    let rest = old.rest in
    let same = sym next.takes.rest in
    let tokens : line_tokens rest ≡ tokens_after first mid.rest =
    line_tokens-next rest ∙ ap (λ r. r >>= λ n. tokens_after n (drop 1 rest)) next.is ∙ ap (tokens_after first) same in
    record {
      is = rw tokens more.is;
      takes = takes_after result _ _ _ _ _ _ _ more.takes next.takes.further
          (line_place-next rest first next.is ∙ ap (λ r. drop (length_after first r) r) same)
          (line_shown-next rest first next.is ∙ ap (λ r. drop (shown_after first r) r) same);
      fault = more.fault;
      errors = reports_after false result (unreported_at old) (unreported_at mid) (unreported_at new) next.errors more.errors;
    }

-- a line that is passed with its errors goes on after an item that doesn't end it, and else ends there
pass_place_by : (s : Seen) (rest : List Seen) (ends : Bool) → not ends ≡ true
    → drop (line_length rest) rest ≡ drop (if ends then 1 else 1 + line_length rest) (s ∷ rest)
pass_place_by s rest true e = cc
pass_place_by s rest false e = sym (drop_past (line_length rest) s rest)

pub passed_place : (rest after : List Seen) (goes_on : Bool) → ◌≡◌ {A = Result Bool Fault} (Ok (item_goes_on rest)) (Ok goes_on) → goes_on ≡ true
    → after ≡ drop 1 rest → drop (line_length after) after ≡ drop (line_length rest) rest
passed_place [] after goes_on is on d = let bad : false ≡ goes_on = cc in cc
passed_place (s ∷ rest) after goes_on is on d =
    let same : not (ends_line s.item) ≡ goes_on = cc in
    rw d (pass_place_by s rest (ends_line s.item) (same ∙ on))

pass_end_by : (s : Seen) (rest : List Seen) (ends : Bool) → not ends ≡ false
    → drop (if ends then 1 else 1 + line_length rest) (s ∷ rest) ≡ rest
pass_end_by s rest true e = refl
pass_end_by s rest false e = cc

pub passed_end : (rest after : List Seen) (goes_on : Bool) → ◌≡◌ {A = Result Bool Fault} (Ok (item_goes_on rest)) (Ok goes_on) → goes_on ≡ false
    → after ≡ drop 1 rest → after ≡ drop (line_length rest) rest
passed_end [] after goes_on is on d = d
passed_end (s ∷ rest) after goes_on is on d =
    let same : not (ends_line s.item) ≡ goes_on = cc in
    d ∙ sym (pass_end_by s rest (ends_line s.item) (same ∙ on))

-- a free name is the first name
free_by : (b : Bool) (refused : Fault) (first placed : Placed) → ◌≡◌ {A = Result Placed Fault} (if b then Err refused else Ok first) (Ok placed)
    → first ≡ placed
free_by true refused first placed e = cc
free_by false refused first placed e = cc

pub free_is_first : (rules : Rules) (found : Result Placed Fault) (placed : Placed) → (found >>= free_name rules) ≡ Ok placed → found ≡ Ok placed
free_is_first rules (Err fault) placed e = cc
free_is_first rules (Ok first) placed e =
    ap Ok (free_by (rules.keeps_own_names && is_own_name first.name) (UnexpectedToken (Ident first.name), first.location) first placed e)

-- after an error of the lexer a line goes on
pub fault_goes_on : (rest : List Seen) (fault : Fault) → line_goes_on rest ≡ Err fault → item_goes_on rest ≡ true
fault_goes_on [] fault e = cc
fault_goes_on (s ∷ rest) fault e = go s.item e
  where
    go : (item : Lexeme) → goes_on_after item ≡ Err fault → not (ends_line item) ≡ true
    go (Ok token) e = cc
    go (Err found) e = refl

-- a line that is skipped, by its first item
abbrev skipped_after : Result Bool Fault → List Seen → Result (Unit {0}) Fault
skipped_after (Ok true) items = skipped_line items
skipped_after (Ok false) items = Ok tt
skipped_after (Err fault) items = Err fault

skips_first : (rest : List Seen) → skipped_line rest ≡ skipped_after (line_goes_on rest) (drop 1 rest)
skips_first [] = refl
skips_first (s ∷ rest) = go s.item
  where
    by : (ends : Bool) → ◌≡◌ {A = Result (Unit {0}) Fault} (unless_fault (if ends then None else line_fault rest) (Ok tt))
        (skipped_after (Ok (not ends)) rest)
    by true = refl
    by false = refl

    go : (item : Lexeme) → skipped_line (record { item = item; had_comments = s.had_comments } ∷ rest) ≡ skipped_after (goes_on_after item) rest
    go (Ok token) = by (is_newline token.value)
    go (Err fault) = refl

skip_goes_on : (s : Seen) (items : List Seen) → line_goes_on (s ∷ items) ≡ Ok true → ends_line s.item ≡ false
skip_goes_on s items e = go s.item e
  where
    by : (newline : Bool) → ◌≡◌ {A = Result Bool Fault} (Ok (not newline)) (Ok true) → newline ≡ false
    by true e = cc
    by false e = refl

    go : (item : Lexeme) → goes_on_after item ≡ Ok true → ends_line item ≡ false
    go (Ok token) e = by (is_newline token.value) e
    go (Err fault) e = cc

pub skipped_shown : (rest after : List Seen) → line_goes_on rest ≡ Ok true → after ≡ drop 1 rest
    → drop (shown_on skipped_line after) after ≡ drop (shown_on skipped_line rest) rest
skipped_shown rest after e d = rw d
    (sym (shown_then skipped_line line_goes_on skipped_after skips_first (λ s items. refl) rest (Ok true) e skip_goes_on refl))

pub skipped_here : (rest after : List Seen) (fault : Fault) → line_goes_on rest ≡ Err fault → after ≡ drop 1 rest
    → (is_shown (fails fault) ≡ true) ⊎ (after ≡ []) → after ≡ drop (shown_on skipped_line rest) rest
skipped_here rest after fault e d h =
    shown_there skipped_line line_goes_on skipped_after skips_first (λ s items. refl) rest after (Err fault) e d h

-- an error of a line that is skipped
pub skip_fails : (h : Halt) (start old new : SourceLexed) → skipped_line old.rest ≡ skipped_line start.rest
    → drop (shown_on skipped_line old.rest) old.rest ≡ drop (shown_on skipped_line start.rest) start.rest → GoesFurther start old
    → unreported_at old ≡ unreported_at start
    → ReadsNext {A = Bool} (λ t. t) line_goes_on old (Err h) new → ReadsLine {A = Unit {0}} (λ t. t) skipped_line start (Err h) new
skip_fails (halt.Fault fault) start old new whole shown went same p = record {
  is = sym whole ∙ skips_first old.rest ∙ ap (λ r. skipped_after r (drop 1 old.rest)) p.is;
  takes = record {
    rest = skipped_here old.rest new.rest fault p.is p.takes.rest p.fault ∙ shown;
    further = goes_then start old new went p.takes.further;
    spent = p.takes.spent;
  };
  fault = p.fault;
  errors = reports_after false {A = Unit {0}} (Err (halt.Fault fault)) (unreported_at start) (unreported_at old) (unreported_at new) same p.errors;
}
skip_fails halt.OutOfMemory start old new whole shown went same p = record { is = tt; takes = tt; fault = tt; errors = tt }

-- a fault is the same whatever a value would have been
pub fails_as : (passes : Bool) {A B C : Type 0} (shows : A → B) (shown : C → B) (h : Halt) (wanted : Result B Fault) (count taken : ℕ) (old new : SourceLexed)
    → ReadsPart passes shows wanted count taken old (Err h) new → ReadsPart passes shown wanted count taken old (Err h) new
fails_as passes shows shown (halt.Fault fault) wanted count taken old new p =
    record { is = p.is; takes = record { rest = p.takes.rest; further = p.takes.further; spent = p.takes.spent }; fault = p.fault; errors = p.errors }
fails_as passes shows shown halt.OutOfMemory wanted count taken old new p = record { is = tt; takes = tt; fault = tt; errors = tt }

-- a line that an item holds
pub entries_fail : {A C : Type 0} (shows : A → List Token) (shown : C → List Entry) (h : Halt) (old new : SourceLexed)
    → ReadsLine shows line_tokens old (Err h) new → ReadsLine shown line_entries old (Err h) new
entries_fail shows shown (halt.Fault fault) old new p = record {
  is = ap (λ (r : Result (List Token) Fault). r >>= λ tokens. Ok (preorder tokens)) p.is;
  takes = record {
    rest = p.takes.rest ∙ same_taken line_tokens line_entries (λ items. sym (mapped_shown (λ tokens. preorder tokens) (line_tokens items))) old.rest;
    further = p.takes.further;
    spent = p.takes.spent;
  };
  fault = p.fault;
  errors = p.errors;
}
entries_fail shows shown halt.OutOfMemory old new p = record { is = tt; takes = tt; fault = tt; errors = tt }

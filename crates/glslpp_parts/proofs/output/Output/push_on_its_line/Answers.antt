use Rattle.std.proofs.Common.{◌≡◌, ◌∙◌, Bool, List, ℕ, false, refl, ap, rules, subst, sym}
use Rattle.std.specs.Str.{chars}
use Rattle.std.proofs.lemmas.Result.{on_ok_weaker}
use Rattle.pp_lexer.specs.declared.token.TokenValue.TheVariants.{Ident, Integer, Punct}
use Rattle.pp_rs.proofs.runs.SpellingLemmas.{chars-punctuator, chars-decimal}
use Rattle.pp_lexer.specs.declared.token.Location.{Location}
use Rattle.glslpp_parts.specs.Output.{GoesTo, Printed, PutsText, is_closing, text_of_line}
use Rattle.glslpp_parts.proofs.SpelledLemmas.{spelled_read, signed_literal, float_read}
use Rattle.glslpp_parts.proofs.output.Output.push_on_its_line.Goals as goal

-- what is put on a line is put on it under another name
put_on : (old : Printed) (text : ℕ) (place : Location) (closes : Bool) (line other : ℕ) (word : List ℕ) (new : Printed) → line ≡ other
    → PutsText old text place closes line word new → PutsText old text place closes other word new
put_on old text place closes line other word new same puts = subst (λ l. PutsText old text place closes l word new) same puts

pub returns-in-Ident-clause-puts : goal.returns-in-Ident-clause-puts
returns-in-Ident-clause-puts c =
    let name = c.in-Ident.name.now in
    on_ok_weaker c.push_word.result (λ puts. rw c.in-Ident.is (record {
      between = c.go_to_text.new.self;
      goes =
          subst (λ line. GoesTo c.args.self.now (text_of_line c.args.token) line c.go_to_text.new.self) c.line_of-line.ensures
          (subst (λ text. GoesTo c.args.self.now text c.line_of-line.result c.go_to_text.new.self) c.text_of.ensures
          c.in_ok-go_to_text.ensures.goes);
      puts = record {
        word = name;
        is_text = λ h. spelled_read c.go_to_text.new.self.rules (Ident (chars name)) name c.push_word.ensures.text refl h;
        puts =
            subst (λ line. PutsText c.go_to_text.new.self c.args.token.origin.text c.args.token.location false line name c.push_word.new.self) c.line_of-line.ensures puts;
      };
    })) c.push_word.ensures.puts

pub returns-in-Punct-clause-puts : goal.returns-in-Punct-clause-puts
returns-in-Punct-clause-puts c =
    let spelled = c.spelling.result.now in
    on_ok_weaker c.push_mark.result (λ puts. rw c.in-Punct.is (record {
      between = c.go_to_text.new.self;
      goes =
          subst (λ line. GoesTo c.args.self.now (text_of_line c.args.token) line c.go_to_text.new.self) c.line_of-line.ensures
          (subst (λ text. GoesTo c.args.self.now text c.line_of-line.result c.go_to_text.new.self) c.text_of.ensures
          c.in_ok-go_to_text.ensures.goes);
      puts = record {
        word = spelled;
        is_text = λ h. spelled_read c.go_to_text.new.self.rules (Punct c.in-Punct.punct) spelled c.spelling.utf8
            (ap chars c.spelling.ensures ∙ chars-punctuator c.in-Punct.punct) h;
        puts =
            subst (λ line. PutsText c.go_to_text.new.self c.args.token.origin.text c.args.token.location (is_closing (Punct c.in-Punct.punct)) line spelled c.push_mark.new.self) c.line_of-line.ensures
            (subst (λ closes. PutsText c.go_to_text.new.self c.args.token.origin.text c.args.token.location closes c.line_of-line.result spelled c.push_mark.new.self)
            c.is_closing.ensures puts);
      };
    })) c.push_mark.ensures.puts

pub returns-in-Float-default-eq32-clause-puts : goal.returns-in-Float-default-eq32-clause-puts
returns-in-Float-default-eq32-clause-puts c =
    let digits = c.in-Float-default-eq32.digits.now in
    on_ok_weaker c.push_word-in-Float-default-eq32.result (λ puts. rw c.in-Float-default-eq32.is (record {
      between = c.go_to_text.new.self;
      goes =
          subst (λ line. GoesTo c.args.self.now (text_of_line c.args.token) line c.go_to_text.new.self) c.line_of-line.ensures
          (subst (λ text. GoesTo c.args.self.now text c.line_of-line.result c.go_to_text.new.self) c.text_of.ensures
          c.in_ok-go_to_text.ensures.goes);
      puts = record {
        word = _;
        is_text = λ h. float_read c.go_to_text.new.self.rules digits _ c.in-Float-default-eq32.field-1
            c.push_word-in-Float-default-eq32.ensures.text (cc) (search rules) h;
        puts = put_on _ _ _ _ _ _ _ _ c.line_of-line.ensures puts;
      };
    })) c.push_word-in-Float-default-eq32.ensures.puts

pub returns-in-Integer-clause-puts : goal.returns-in-Integer-clause-puts
returns-in-Integer-clause-puts c =
    let digit = c.digit.result.now in
    let i = c.in-Integer.integer in
    on_ok_weaker c.push_word-in-Integer.result (λ puts. rw c.in-Integer.is (record {
      between = c.go_to_text.new.self;
      goes =
          subst (λ line. GoesTo c.args.self.now (text_of_line c.args.token) line c.go_to_text.new.self) c.line_of-line.ensures
          (subst (λ text. GoesTo c.args.self.now text c.line_of-line.result c.go_to_text.new.self) c.text_of.ensures
          c.in_ok-go_to_text.ensures.goes);
      puts = record {
        word = digit;
        is_text = λ h. spelled_read c.go_to_text.new.self.rules (Integer i) digit c.push_word-in-Integer.ensures.text
            (ap chars c.digit.ensures.text ∙ chars-decimal i.value h.0
            ∙ sym (signed_literal i (c.is_digit.ensures.signed c.if-is_digit.true) (c.is_digit.ensures.width c.if-is_digit.true))) h;
        puts =
            subst (λ line. PutsText c.go_to_text.new.self c.args.token.origin.text c.args.token.location false line digit c.push_word-in-Integer.new.self) c.line_of-line.ensures puts;
      };
    })) c.push_word-in-Integer.ensures.puts

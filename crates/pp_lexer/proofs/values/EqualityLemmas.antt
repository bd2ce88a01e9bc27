-- `==` of tokens and of errors decides whether they are equal.
use Rattle.std.proofs.Common.{◌≡◌, ap, rules, arith}
use Rattle.std.specs.Bool.{Decides}
use Rattle.std.specs.Cmp.Lexicographic.{bytes_decides}
use Rattle.std.proofs.lemmas.Bool.Decides.{Decides-and, Decides-like}
use Rattle.pp_lexer.specs.EntryEq.{beq_decides, integer_decides, punct_decides, entries_decide}
use Rattle.pp_lexer.proofs.values.DerivedEq.{enum_decides, bare_decides, one_decides}
use Rattle.pp_lexer.specs.contracts.token.FloatPartialEq.TheImpl.{eq-value as float_eq}
use Rattle.pp_lexer.specs.contracts.token.VersionPartialEq.TheImpl.{eq-value as version_eq}
use Rattle.pp_lexer.specs.contracts.token.ExtensionPartialEq.TheImpl.{eq-value as extension_eq}
use Rattle.pp_lexer.specs.contracts.token.PragmaPartialEq.TheImpl.{eq-value as pragma_eq}
use Rattle.pp_lexer.specs.contracts.token.TokenValuePartialEq.TheImpl.{eq-value as value_eq}
use Rattle.pp_lexer.specs.contracts.token.TokenPartialEq.TheImpl.{eq-value as token_eq}
use Rattle.pp_lexer.specs.contracts.token.PreprocessorErrorPartialEq.TheImpl.{eq-value as error_eq}
use Rattle.pp_lexer.specs.contracts.lexer.item.TokenValuePartialEq.TheImpl.{eq-value as lexer_value_eq}
use Rattle.pp_lexer.specs.contracts.lexer.item.TokenPartialEq.TheImpl.{eq-value as lexer_token_eq}
use Rattle.pp_lexer.specs.contracts.lexer.item.TokenValue.{enum as lexer_value_enum}
use Rattle.pp_lexer.specs.contracts.token.TokenValue.{enum as value_enum}
use Rattle.pp_lexer.specs.contracts.token.PreprocessorError.{enum as error_enum}
use Rattle.pp_lexer.specs.declared.token.Float.{Float}
use Rattle.pp_lexer.specs.declared.token.Version.{Version}
use Rattle.pp_lexer.specs.declared.token.Extension.{Extension}
use Rattle.pp_lexer.specs.declared.token.Pragma.{Pragma}
use Rattle.pp_lexer.specs.declared.token.TokenValue.{TokenValue}
use Rattle.pp_lexer.specs.declared.token.Token.{Token}
use Rattle.pp_lexer.specs.declared.lexer.item.TokenValue.{TokenValue as LexerTokenValue}
use Rattle.pp_lexer.specs.declared.lexer.item.Token.{Token as LexerToken}
use Rattle.pp_lexer.specs.declared.token.PreprocessorError.{PreprocessorError}

pub float_decides : (a b : Float) → Decides (float_eq.it a b) (a ≡ b)
float_decides a b = search (rules, bytes_decides)

version_decides : (a b : Version) → Decides (version_eq.it a b) (a ≡ b)
version_decides a b =
    Decides-like _
    (λ p i. record { tokens = p.0 i; is_first_directive = p.1.0 i; has_comments_before = p.1.1 i })
    (λ e. (ap (λ x. x.tokens) e, (ap (λ x. x.is_first_directive) e, ap (λ x. x.has_comments_before) e)))
    (Decides-and _ _ (entries_decide a.tokens b.tokens) (Decides-and _ _ (beq_decides a.is_first_directive b.is_first_directive)
    (beq_decides a.has_comments_before b.has_comments_before)))

extension_decides : (a b : Extension) → Decides (extension_eq.it a b) (a ≡ b)
extension_decides a b =
    Decides-like _
    (λ p i. record { tokens = p.0 i; has_non_directive_before = p.1 i })
    (λ e. (ap (λ x. x.tokens) e, ap (λ x. x.has_non_directive_before) e))
    (Decides-and _ _ (entries_decide a.tokens b.tokens) (beq_decides a.has_non_directive_before b.has_non_directive_before))

pragma_decides : (a b : Pragma) → Decides (pragma_eq.it a b) (a ≡ b)
pragma_decides a b =
    Decides-like _ (λ p i. record { tokens = p i }) (ap (λ x. x.tokens)) (entries_decide a.tokens b.tokens)

pub value_decides : (a b : TokenValue) → Decides (value_eq.it a b) (a ≡ b)
value_decides =
    enum_decides value_enum _ (
      one_decides _ bytes_decides,
      (
        one_decides _ integer_decides,
        (
          one_decides _ float_decides,
          (
            one_decides _ punct_decides,
            (one_decides _ version_decides, (one_decides _ extension_decides, (one_decides _ pragma_decides, tt))),
          ),
        ),
      ),
    )

pub token_decides : (a b : Token) → Decides (token_eq.it a b) (a ≡ b)
token_decides a b = grind (arith, value_decides)

unexpected_decides : (x y : TokenValue × Unit {0}) → Decides (value_eq.it x.0 y.0) (x ≡ y)
unexpected_decides = one_decides _ value_decides

pub error_decides : (a b : PreprocessorError) → Decides (error_eq.it a b) (a ≡ b)
error_decides = enum_decides error_enum _ (search (bare_decides, unexpected_decides))

lexer_value_decides : (a b : LexerTokenValue) → Decides (lexer_value_eq.it a b) (a ≡ b)
lexer_value_decides =
    enum_decides lexer_value_enum _ (
      bare_decides,
      (
        bare_decides,
        (
          one_decides _ bytes_decides,
          (one_decides _ integer_decides, (one_decides _ float_decides, (one_decides _ punct_decides, tt))),
        ),
      ),
    )

pub lexer_token_decides : (a b : LexerToken) → Decides (lexer_token_eq.it a b) (a ≡ b)
lexer_token_decides a b = grind (arith, lexer_value_decides)

use Rattle.std.proofs.Common.{◌≡◌, ◌⊎◌, [], Ok, Err, refl, rules, true}
use Rattle.pp_lexer.specs.declared.token.Token.{Token}
use Rattle.pp_model.specs.Painting.{read_in}
use Rattle.pp_macros.specs.Item.{PlacedStep}
use Rattle.pp_macros.specs.declared.step.PlacedExit.TheVariants.{Finished}
use Rattle.pp_macros.specs.inner.Reader.{reads}
use Rattle.pp_directives.proofs.directives.DirectiveProcessor.push_word.Goals as goal

pub returns-clause-onto : goal.returns-clause-onto
returns-clause-onto c =
    let end : ◌≡◌ {A = PlacedStep Token} (Ok c.in_ok-token.token) (Err Finished) → (c.args.self.now.spent ≡ true) ⊎ (c.args.self.now.around ≡ []) = λ e. cc in
    record {
      read = read_in c.args.self.now.text c.in_ok-token.token;
      reads = reads (Ok c.in_ok-token.token) (search rules) (search rules) end refl;
      apart = search rules;
      holds = search rules;
      is = search rules;
    }

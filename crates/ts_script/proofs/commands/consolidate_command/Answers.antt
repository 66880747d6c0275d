-- The options of a consolidation, one after the other.
use Rattle.std.proofs.Common.{◌≡◌, codes, ◌∙◌, ap, subst}
use Rattle.std.specs.Prelude.{IfOk}
use Rattle.clap.specs.Simple.{App, app_of, with_rule}
use Rattle.ts_script.specs.Words.{consolidate_app, option_named}
use Rattle.ts_script.proofs.commands.consolidate_command.Goals as goal

pub returns-clause-app : goal.returns-clause-app
unfolding consolidate_app
returns-clause-app c =
    let P : App → Type 0 = λ a. IfOk c.with_option-2.result (λ command. app_of command ≡ with_rule a (option_named (codes "max"))) in
    subst P (c.in_ok-command-2.ensures.app ∙ ap (λ a. with_rule a (option_named (codes "min"))) c.in_ok-command.ensures.app) c.with_option-2.ensures.app

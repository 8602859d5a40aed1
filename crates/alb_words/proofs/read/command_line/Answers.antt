use Rattle.std.proofs.Common.{rules, ap, ap₂, true, ◌≡◌, ◌∙◌}
use Rattle.std.proofs.lemmas.Result.{IfOk-weaker}
use Rattle.clap.specs.Simple.{app_of_fields}
use Rattle.clap.specs.declared.builder.command.Command.{Command}
use Rattle.clap.specs.declared.builder.command.Command.TheOpen.{Command-F}
use Rattle.clap.specs.Words.{App, app_of, rule_of, with_rule}
use Rattle.alb_words.specs.Words.{bare, words_rule, workers_rule}
use Rattle.alb_words.proofs.read.command_line.Goals as goal

abbrev set_up : App → App
set_up a = record a { top = record a.top { no_binary_name = true; disable_help_flag = true; disable_version_flag = true } }

pub returns : goal.returns
returns c =
    let workers_is : rule_of c.action-workers.result ≡ workers_rule = search rules in
    let words_is : rule_of c.action-words.result ≡ words_rule = search rules in
    let bare_is : app_of c.disable_version_flag.result ≡ bare = (let same : app_of c.disable_version_flag.result ≡ set_up (app_of c.new-3.result) =
    ap app_of_fields (c.disable_version_flag.ensures ∙ ap (λ (f : Command-F Command). record f { disable_version_flag = true })
    (c.disable_help_flag.ensures ∙ ap (λ (f : Command-F Command). record f { disable_help_flag = true }) c.no_binary_name.ensures)) in same ∙ ap set_up c.new-3.ensures.app) in
    let first : app_of c.in_ok-arg.field-0 ≡ with_rule bare workers_rule = c.in_ok-arg.ensures.shape (search rules) ∙ ap₂ with_rule bare_is workers_is in
    IfOk-weaker c.arg-2.result _ _ (λ m h. h.shape (search rules) ∙ ap₂ with_rule first words_is) c.arg-2.ensures

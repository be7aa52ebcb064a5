use Rattle.std.proofs.Common.{◌≡◌, ◌∙◌, true, ap, codes}
use Rattle.clap.specs.Words.{app_of, new_app}
use Rattle.clap.specs.Simple.{app_of_fields, on_top}
use Rattle.rv_inquiry.specs.Inquiries.{versioned}
use Rattle.rv_inquiry.proofs.command.program_alone.Goals as goal

pub returns : goal.returns
returns c =
    let top : app_of c.about.result ≡ new_app (codes "ravenreview") = ap app_of_fields c.about.ensures ∙ c.new.ensures.app in
    let version : app_of c.version.result ≡ versioned = ap app_of_fields c.version.ensures ∙ ap (on_top (λ s. record s { has_version = true })) top in
    ap app_of_fields c.subcommand_required.ensures ∙ ap (on_top (λ s. record s { subcommand_required = true })) version

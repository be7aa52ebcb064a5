-- The command is one whose matches `clap` tells.
use Rattle.std.proofs.Common.{◌≡◌, true, refl}
use Rattle.clap.specs.Words.{is_simple}
use Rattle.clap.proofs.OnLiterals.{clap_on_literals}
use Rattle.rv_inquiry.specs.Inquiries.{program}

pub simple : is_simple program ≡ true
unfolding clap_on_literals
simple = refl

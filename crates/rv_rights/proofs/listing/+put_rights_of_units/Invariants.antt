use Rattle.std.proofs.Common.{length}
use Rattle.rv_rights.proofs.listing.+put_rights_of_units.Given as goal

abbrev pub decreases-put_rights_of_units : goal.decreases-put_rights_of_units
decreases-put_rights_of_units l = length l.shapes.now

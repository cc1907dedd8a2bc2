use Rattle.ip_spec.proofs.Common.{map, take, FitsPlaces}
use Rattle.check_reference.specs.PlainHeader.{plain_header_of}
use Rattle.check_reference.proofs.fits.fitting_len.Given as goal

-- the first headers fit
abbrev pub invariant-lens : goal.invariant-lens
invariant-lens l = FitsPlaces (map plain_header_of (take l.len l.headers))

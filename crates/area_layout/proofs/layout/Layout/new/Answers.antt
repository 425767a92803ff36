use Rattle.area_layout.proofs.Making.{made, one-made}
use Rattle.area_layout.proofs.layout.Layout.new.Goals as goal

pub returns-clause-fits : goal.returns-clause-fits
returns-clause-fits c = (
  λ some. made _ c.args.reserves (c.of.ensures.fits.0 some),
  λ l. c.of.ensures.fits.1 (one-made c.args.buffers c.args.reserves c.args.size l),
)

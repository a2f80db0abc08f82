use Rattle.st_bounds.proofs.Fitting.{texts_fit}
use Rattle.st_bounds.proofs.laws.short_texts_fit_code.Goals as goal

pub returns : goal.returns
returns c = texts_fit

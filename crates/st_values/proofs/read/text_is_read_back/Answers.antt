use Rattle.st_values.proofs.RoundTrip.{reads-text}
use Rattle.st_values.proofs.read.text_is_read_back.Goals as goal

pub returns : goal.returns
returns c = reads-text c.args.value c.requires

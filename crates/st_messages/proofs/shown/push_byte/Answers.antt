use Rattle.st_messages.proofs.shown.push_byte.Goals as goal

pub returns : goal.returns
returns c = rw (c.in_radix.ensures, c.in_radix-2.ensures) at c.write.ensures.bytes

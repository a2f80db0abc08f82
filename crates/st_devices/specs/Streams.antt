-- What contracts see of the devices over readers and writers.
use Rattle.std.specs.Prelude.{ℕ, Bool}
use Rattle.st_devices.specs.declared.reader_source.FromReader.{FromReader}
use Rattle.st_devices.specs.declared.writer_sink.ToWriter.{ToWriter}

module _ {R : Type 0} where
  -- the reader that a source reads
  abbrev pub reader_of : FromReader R → R
  reader_of source = source.reader

  -- the reads that a source still makes
  abbrev pub reads_left_of : FromReader R → ℕ
  reads_left_of source = source.reads_left

  abbrev pub reader_has_failed : FromReader R → Bool
  reader_has_failed source = source.failed

module _ {W : Type 0} where
  -- the writer that a sink writes to
  abbrev pub writer_of : ToWriter W → W
  writer_of sink = sink.writer

  abbrev pub writer_has_failed : ToWriter W → Bool
  writer_has_failed sink = sink.failed

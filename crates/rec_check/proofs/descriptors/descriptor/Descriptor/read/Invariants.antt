use Rattle.rec_text.specs.Places.{pieces_of}
use Rattle.rec_check.specs.proving.Reading.{said}
use Rattle.rec_check.proofs.lemmas.descriptors.DescriptorLemmas.{IsReadUpTo}
use Rattle.rec_check.proofs.descriptors.descriptor.Descriptor.read.Given as goal

abbrev pub invariant-loop-field : goal.invariant-loop-field
invariant-loop-field l = IsReadUpTo l.types (pieces_of l.fields) l.field-index (said l.descriptor)

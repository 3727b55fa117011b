use Rattle.lift_forms_bits.proofs.reads.+bytes_word.Given as goal

abbrev pub decreases-bytes_word : goal.decreases-bytes_word
decreases-bytes_word l = l.more

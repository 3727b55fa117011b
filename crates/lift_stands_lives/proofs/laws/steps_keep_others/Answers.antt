use Rattle.lift_stands_lives.proofs.Steps.{image_may_change, since_may_change, stores_keep, stores_aside_keep, both_store_keep, onto_keeps, beside_keeps, both_keeps, dies_keeps, fewer_keeps, newer_keeps, ends_keeps, both_die_keep, allocated_keeps, freed_keeps}
use Rattle.lift_stands_lives.proofs.laws.steps_keep_others.Goals as goal

pub returns : goal.returns
returns c = record {
  image = image_may_change;
  since = since_may_change;
  stores = λ base own images held other at count after mapped. stores_keep base own images held other mapped at count after;
  stores_aside = λ base own images held other at count after mapped. stores_aside_keep base own images held other mapped at count after;
  both_store = λ base own images held other at to count many after beyond mapped. both_store_keep base own images held other mapped at to count many after beyond;
  onto = onto_keeps;
  beside = beside_keeps;
  both = both_keeps;
  dies = dies_keeps;
  fewer = fewer_keeps;
  newer = newer_keeps;
  ends = ends_keeps;
  both_die = both_die_keep;
  allocated = allocated_keeps;
  freed = freed_keeps;
}

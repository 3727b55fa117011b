mod EffectExamples
mod OutputLemmas
mod PrintfExamples
mod PrintingLemmas

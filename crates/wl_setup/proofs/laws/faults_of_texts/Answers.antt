use Rattle.wl_setup.specs.Reading.{document_of}
use Rattle.wl_setup.proofs.FaultLemmas.{only_document_faults, toml_means_none}
use Rattle.wl_setup.proofs.laws.faults_of_texts.Goals as goal

pub returns : goal.returns
returns c = record { toml = λ text is. toml_means_none (document_of text) is; document = only_document_faults }

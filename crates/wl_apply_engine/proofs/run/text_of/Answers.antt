use Rattle.wl_engines.specs.declared.reader.TextReader.{TextReader}
use Rattle.wl_apply_engine.proofs.Reading.{read_fault, read_whole}
use Rattle.wl_apply_engine.proofs.run.text_of.Goals as goal

pub returns-clause-read : goal.returns-clause-read
returns-clause-read c =
    read_whole (λ (s : TextReader). s.rest.now) (record { rest = c.args.text }) c.read_text.new.reader c.requires c.read_text.result c.read_text.ensures

pub returns-clause-fault : goal.returns-clause-fault
returns-clause-fault c =
    read_fault (λ (s : TextReader). s.rest.now) (record { rest = c.args.text }) c.read_text.new.reader c.requires c.read_text.result c.read_text.ensures

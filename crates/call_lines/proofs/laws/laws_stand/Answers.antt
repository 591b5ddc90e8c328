use Rattle.call_lines.proofs.Lines.{spells_short, spells_unique}
use Rattle.call_lines.proofs.Spelling.{spelling_spells}
use Rattle.call_lines.proofs.laws.laws_stand.Goals as goal

pub returns : goal.returns
returns c = record { one_call = spells_unique; short = spells_short; spelling = spelling_spells }

use Rattle.script_text.proofs.WholeTexts.{script_goes, script_sound}
use Rattle.script_text.proofs.laws.law_says.Goals as goal

pub returns : goal.returns
returns c = λ text script. (script_goes text script, script_sound text script)

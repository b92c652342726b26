use Rattle.lis_tool.proofs.UpgradeLaws.{says_the_same}
use Rattle.lis_tool.proofs.laws.upgraded.Goals as goal

pub returns : goal.returns
returns c = says_the_same

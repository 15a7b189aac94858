use Rattle.act_image.specs.Pics.{rows_in, firsts_in, installed}
use Rattle.act_index.specs.Codes.{code}
use Rattle.act_index.proofs.put.renew.Given as goal

abbrev pub ghosts-renew_as : goal.ghosts-renew_as
ghosts-renew_as a = record { entry = code a.plain.now.settings a.next.now.entry; rows = rows_in (installed a.image.now a.plan.now); firsts = firsts_in (installed a.image.now a.plan.now) }

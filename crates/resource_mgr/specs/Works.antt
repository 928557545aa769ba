-- Jobs of a library.
use Rattle.std.specs.Prelude.{Option, Some, None}
use Rattle.exec_reel.specs.Tickets.{number_of, reel_of_ticket}
use Rattle.resource_mgr.specs.PageOrder.{ReelPage}
use Rattle.resource_mgr.specs.declared.work.Work.{Work}
use Rattle.resource_mgr.specs.declared.work.Work.TheVariants.{Page, Quit}

-- the page that is to be decoded, if there is one
abbrev pub page_in : Work → Option ReelPage
page_in (Page resource ticket) = Some record { resource = resource; page = number_of ticket; reel = reel_of_ticket ticket }
page_in Quit = None

use Rattle.std.proofs.Common.{subst}
use Rattle.resource_mgr.proofs.Balance.{one_none_lost}
use Rattle.resource_mgr.proofs.Desks.{worked_page, had_quit}
use Rattle.resource_mgr.specs.Holding.{ObtainedJob}
use Rattle.resource_mgr.specs.contracts.work.Work.{the_row}
use Rattle.resource_mgr.specs.declared.work.Work.{Work}
use Rattle.resource_mgr.specs.declared.work.Worked.TheVariants.{Quit, Empty}
use Rattle.resource_mgr.proofs.library.Library.work_one.Goals as goal

pub returns-in-Page-clause-worked : goal.returns-in-Page-clause-worked
returns-in-Page-clause-worked g c =
    let came = subst (λ (w : Work). ObtainedJob c.args.self.now c.args.desk.now c.next_job.new.desk c.in-Some.tag w) c.in-Page.is c.in-Some.ensures in
    worked_page _ c.args.self.now c.args.desk.now c.next_job.new.desk c.run_page.new.desk c.in-Some.tag c.in-Page.resource c.in-Page.ticket c.run_page.result came c.run_page.ensures

pub returns-in-Page-clause-jobs : goal.returns-in-Page-clause-jobs
returns-in-Page-clause-jobs g c =
    let came = subst (λ (w : Work). ObtainedJob c.args.self.now c.args.desk.now c.next_job.new.desk c.in-Some.tag w) c.in-Page.is c.in-Some.ensures in
    one_none_lost the_row.coded.code c.args.self.now c.args.desk.now c.run_page.new.desk c.run_page.result
    (worked_page the_row.coded.code c.args.self.now c.args.desk.now c.next_job.new.desk c.run_page.new.desk c.in-Some.tag c.in-Page.resource c.in-Page.ticket c.run_page.result came c.run_page.ensures)

pub returns-in-Quit-clause-worked : goal.returns-in-Quit-clause-worked
returns-in-Quit-clause-worked g c =
    let came = subst (λ (w : Work). ObtainedJob c.args.self.now c.args.desk.now c.next_job.new.desk c.in-Some.tag w) c.in-Quit.is c.in-Some.ensures in
    had_quit _ c.args.self.now c.args.desk.now c.next_job.new.desk c.put_back.new.desk c.in-Some.tag came c.put_back.ensures

pub returns-in-Quit-clause-jobs : goal.returns-in-Quit-clause-jobs
returns-in-Quit-clause-jobs g c =
    let came = subst (λ (w : Work). ObtainedJob c.args.self.now c.args.desk.now c.next_job.new.desk c.in-Some.tag w) c.in-Quit.is c.in-Some.ensures in
    one_none_lost the_row.coded.code c.args.self.now c.args.desk.now c.put_back.new.desk Quit
    (had_quit the_row.coded.code c.args.self.now c.args.desk.now c.next_job.new.desk c.put_back.new.desk c.in-Some.tag came c.put_back.ensures)

pub returns-in_default-clause-jobs : goal.returns-in_default-clause-jobs
returns-in_default-clause-jobs g c = one_none_lost the_row.coded.code c.args.self.now c.args.desk.now c.next_job.new.desk Empty c.in_default.ensures.empty

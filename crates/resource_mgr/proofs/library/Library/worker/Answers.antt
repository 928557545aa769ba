use Rattle.std.proofs.Common.{◌∙◌, refl}
use Rattle.resource_mgr.proofs.Balance.{first_none_lost, still_none_lost}
use Rattle.resource_mgr.proofs.Workers.{goes_first, goes_next}
use Rattle.resource_mgr.specs.contracts.work.Work.{the_row}
use Rattle.resource_mgr.specs.declared.work.Worked.TheVariants.{Ran, Early, Quit, Empty}
use Rattle.resource_mgr.proofs.library.Library.worker.Goals as goal

pub loop-init : goal.loop-init
loop-init g c = record {
  desk = c.requires;
  number = refl;
  goes = goes_first c.args.desk.now;
  jobs = first_none_lost c.args.desk.now;
  can_next = tt;
  finite = tt;
}

pub loop-preserved-in-Ran : goal.loop-preserved-in-Ran
loop-preserved-in-Ran g c =
    let e = c.in-Ran.ensures in
    record {
      desk = e.desk.0;
      number = e.desk.1 ∙ c.loop.invariant.number;
      goes = goes_next the_row.coded.code c.args.self.now c.args.desk.now c.loop.desk c.work_one.new.desk c.loop.invariant.goes (Ran c.in-Ran.resource c.in-Ran.page) e.worked;
      jobs = still_none_lost c.args.desk.now c.loop.desk c.work_one.new.desk c.loop.invariant.jobs e.jobs;
      can_next = tt;
      finite = tt;
    }

pub loop-preserved-in-Early : goal.loop-preserved-in-Early
loop-preserved-in-Early g c =
    let e = c.in-Early.ensures in
    record {
      desk = e.desk.0;
      number = e.desk.1 ∙ c.loop.invariant.number;
      goes = goes_next the_row.coded.code c.args.self.now c.args.desk.now c.loop.desk c.work_one.new.desk c.loop.invariant.goes (Early c.in-Early.resource c.in-Early.page c.in-Early.pointer) e.worked;
      jobs = still_none_lost c.args.desk.now c.loop.desk c.work_one.new.desk c.loop.invariant.jobs e.jobs;
      can_next = tt;
      finite = tt;
    }

pub loop-preserved : goal.loop-preserved
loop-preserved g c =
    let e = c.in-Empty.ensures in
    record {
      desk = e.desk.0;
      number = e.desk.1 ∙ c.loop.invariant.number;
      goes = goes_next the_row.coded.code c.args.self.now c.args.desk.now c.loop.desk c.work_one.new.desk c.loop.invariant.goes Empty e.worked;
      jobs = still_none_lost c.args.desk.now c.loop.desk c.work_one.new.desk c.loop.invariant.jobs e.jobs;
      can_next = tt;
      finite = tt;
    }

pub returns-in-Quit-clause-stopped : goal.returns-in-Quit-clause-stopped
returns-in-Quit-clause-stopped g c = goes_next the_row.coded.code c.args.self.now c.args.desk.now c.loop.desk c.work_one.new.desk c.loop.invariant.goes Quit c.in-Quit.ensures.worked

pub returns-in-Quit-clause-jobs : goal.returns-in-Quit-clause-jobs
returns-in-Quit-clause-jobs g c = still_none_lost c.args.desk.now c.loop.desk c.work_one.new.desk c.loop.invariant.jobs c.in-Quit.ensures.jobs

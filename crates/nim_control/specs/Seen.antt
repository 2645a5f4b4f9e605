-- What contracts see of a controller.
use Rattle.nim_course.specs.Controller.{Controller}
use Rattle.nim_control.specs.declared.controller.ControllerCore.TheInside.{Inside}

-- Its fields, but for the tasks of the blocks, which its job determines.
abbrev pub seen : Inside → Controller
seen c = record {
  job = c.job;
  place = c.sites.place;
  live = c.sites.live;
  machine = c.machine;
  versions = c.sites.versions;
  decisions = c.decisions;
  epoch = c.epoch;
  position = c.position;
  instance = c.instance;
  ticket = c.ticket;
  pending = c.pending;
  first = c.first;
  fetched = c.fetched.items;
  flight = c.flight.items;
  due = c.due;
  outcome = c.outcome;
  summary = c.summary;
}
